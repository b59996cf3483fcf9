-- The slice of an array's entries in use is their row. Assumes nothing.
use Rattle.std.proofs.Common.{◌≡◌, ◌≤◌, ◌<◌, ◌∙◌, ℕ, List, length, take, sym, arith}
use lib.Seq.{length-take-le, get_or-take, ext_get_or}
use Rattle.rules.specs.Count.{entry, row}
use Rattle.rules.proofs.Count.{length-row, entry_row}

pub taken_row : (array : List ℕ) {count : ℕ} → count ≤ length array → take count array ≡ row (entry array) count
taken_row array {count} h =
    let long : length (take count array) ≡ count = length-take-le count array h in
    ext_get_or 0 (take count array) (row (entry array) count) (long ∙ sym (length-row _ _))
    (λ k g. let l : k < count = omega arith in get_or-take count array k 0 l ∙ sym (entry_row (entry array) count k l))
