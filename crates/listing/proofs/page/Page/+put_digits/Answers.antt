use Rattle.std.proofs.Common.{◌≡◌, ℕ, ◌+◌, ◌/◌, ◌%◌, ◌^◌, ◌<◌, ◌≤◌, [], ◌∷◌, length, decimal, ap, ◌∙◌, arith, length-append}
use Rattle.std.proofs.lemmas.Fmt.{decimal_digit, decimal_step}
use Rattle.listing.proofs.Puts.{then_put}
use Rattle.listing.proofs.page.Page.+put_digits.Goals as goal
use Rattle.listing.proofs.page.Page.+put_digits.Goals.{then-n-ge10, else-n-ge10}

-- one digit more
longer : (n : ℕ) → 10 ≤ n → n < 2 ^ 64 → length (decimal n) ≡ length (decimal (n / 10)) + 1
longer n h f = ap length (decimal_step n h f) ∙ length-append (decimal (n / 10)) ((48 + n % 10) ∷ [])

pub put_digits-requires : goal.put_digits-requires
put_digits-requires t c = let e = longer c.args.n (omega arith) (omega arith) in (omega arith, omega arith)

pub put-requires : goal.put-requires
put-requires t c =
    elim c.if-n-ge10.branch [
      | then-n-ge10 w ↦ rw w.self-is (omega (arith, longer c.args.n (omega arith) (omega arith), w.put_digits.ensures.room))
      | else-n-ge10 w ↦ rw w.self-is (omega (arith, ap length (decimal_digit c.args.n (omega arith))))
    ]

pub returns : goal.returns
returns t c =
    elim c.if-n-ge10.branch [
      | then-n-ge10 w ↦
          rw (decimal_step c.args.n (omega arith) (omega arith))
          (then_put (decimal (c.args.n / 10)) ((48 + c.args.n % 10) ∷ []) _ _ _ (rw w.self-is w.put_digits.ensures) c.put.ensures)
      | else-n-ge10 w ↦
          let same : c.args.n % 10 ≡ c.args.n = omega arith in
          rw (decimal_digit c.args.n (omega arith)) (rw (same, w.self-is) at c.put.ensures)
    ]
