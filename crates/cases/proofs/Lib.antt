mod Filling
mod Numbers
