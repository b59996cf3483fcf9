use Rattle.std.proofs.Common.{ℕ, ◌≡◌, ◌≤◌, ◌+◌, ◌-◌, ◌*◌, ◌%◌, ◌^◌, mul-le-mul, arith, rules}
use Rattle.roots.proofs.Digits.{guessed}
use Rattle.roots.proofs.is_root.Goals as goal

pub overflow_mul-result : goal.overflow_mul-result
overflow_mul-result c = let h : c.from-r.result ≤ 65535 = search rules in omega (arith, mul-le-mul h h)

pub returns : goal.returns
returns c =
    let e : c.from-r.result ≡ c.args.guess = search rules in
    let h : c.args.guess ≤ 65535 = search rules in
    let left : ℕ = (c.args.w.0 + (4294967296 - c.args.guess * c.args.guess)) % 4294967296 in
    let whole : (left + c.args.guess * c.args.guess) % 2 ^ 32 ≡ c.args.w.0 = omega (arith, mul-le-mul h h) in
    rw e (guessed h whole (omega arith))
