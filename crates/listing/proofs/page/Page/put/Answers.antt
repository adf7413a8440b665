use Rattle.std.proofs.Common.{ℕ, ◌+◌, List, ◌++◌, length, take, drop, refl, ap, ◌∙◌, arith}
use borrow.Rule.Slice.PartMut.{Post-is}
use Rattle.listing.proofs.Puts.{stands}
use Rattle.listing.proofs.page.Page.put.Goals as goal

pub returns : goal.returns
returns c =
    let at = c.args.self.now.at in
    let xs = c.args.self.now.place.now in
    let bs = c.args.bytes.now in
    let p =
    ap (λ (zs : List ℕ). take at xs ++ (c.copy_from_slice.new.self ++ zs)) (Post-is at (at + length bs) xs (omega arith))
    ∙ ap (λ (ys : List ℕ). take at xs ++ (ys ++ drop (at + length bs) xs)) c.copy_from_slice.ensures.after in
    stands bs c.args.self.now _ c.requires refl p refl
