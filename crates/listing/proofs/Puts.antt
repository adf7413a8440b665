-- Bytes put one after another. Assumes nothing.
use Rattle.std.proofs.Common.{◌≡◌, ℕ, ◌+◌, ◌^◌, ◌<◌, ◌≤◌, List, [], ◌∷◌, ◌++◌, length, take, drop, decimal, sym, refl, ap, ◌∙◌, append_assoc, append-nil, arith, length-append, length-drop}
use lib.Seq.{take-append_seam, drop-append_seam}
use Rattle.std.proofs.lemmas.List.{drop-drop, length-take-le}
use Rattle.std.proofs.lemmas.Fmt.{length-decimal-le}
use Rattle.listing.specs.declared.page.Page.{Page}
use Rattle.listing.specs.Put.{Put, rest, room}

-- Bytes that stand from where the page was written to.
pub stands : (bs : List ℕ) (x z : Page) → length bs ≤ room x → z.at ≡ x.at + length bs →
    z.place.now ≡ take x.at x.place.now ++ (bs ++ drop (x.at + length bs) x.place.now) → z.place.ghost_name ≡ x.place.ghost_name → Put bs x z
stands bs x z fits e p same =
    let xs = x.place.now in
    let front = take x.at xs ++ bs in
    let back = drop (x.at + length bs) xs in
    let long : length front ≡ z.at = omega (arith, length-append (take x.at xs) bs, length-take-le x.at xs x.within) in
    let seam : z.place.now ≡ front ++ back = p ∙ sym (append_assoc (take x.at xs) bs back) in
    record {
      written = ap (take z.at) seam ∙ ap (λ k. take k (front ++ back)) (sym long) ∙ take-append_seam front back;
      rest =
          ap (drop z.at) seam ∙ ap (λ k. drop k (front ++ back)) (sym long) ∙ drop-append_seam front back
          ∙ sym (drop-drop (length bs) x.at xs);
      room = omega (arith, ap length seam, length-append front back, length-drop (x.at + length bs) xs, x.within);
      same = same;
    }

-- What is put after what was put: both stand there.
pub then_put : (a b : List ℕ) (x y z : Page) → Put a x y → Put b y z → Put (a ++ b) x z
then_put a b x y z p q =
    record {
      written = q.written ∙ ap (λ (front : List ℕ). front ++ b) p.written ∙ append_assoc _ a b;
      rest =
          q.rest ∙ ap (drop (length b)) p.rest ∙ drop-drop (length b) (length a) (rest x)
          ∙ ap (λ k. drop k (rest x)) (sym (length-append a b));
      room = omega (arith, p.room, q.room, length-append a b);
      same = q.same ∙ p.same;
    }

-- Nothing is put.
pub none_put : (x : Page) → Put [] x x
none_put x = record { written = sym (append-nil _); rest = refl; room = omega arith; same = refl }

-- A field with the byte that ends it, and what is put after it.
pub field_put : (f : List ℕ) (e : ℕ) (b : List ℕ) (x y z : Page) → Put (f ++ (e ∷ [])) x y → Put b y z → Put (f ++ (e ∷ b)) x z
field_put f e b x y z p q =
    let r = then_put (f ++ (e ∷ [])) b x y z p q in
    rw append_assoc at r

-- How many digits numbers of 8, 16, 32 and 64 bits have.
pub short_8 : (n : ℕ) → n < 256 → length (decimal n) ≤ 3
short_8 n h = length-decimal-le 3 n (omega arith) (omega arith) (omega arith)

pub short_16 : (n : ℕ) → n < 65536 → length (decimal n) ≤ 5
short_16 n h = length-decimal-le 5 n (omega arith) (omega arith) (omega arith)

pub short_32 : (n : ℕ) → n < 2 ^ 32 → length (decimal n) ≤ 10
short_32 n h = length-decimal-le 10 n (omega arith) (omega arith) (omega arith)

pub short_64 : (n : ℕ) → n < 2 ^ 64 → length (decimal n) ≤ 20
short_64 n h = length-decimal-le 20 n (omega arith) (omega arith) h

pub ruleset digits = (short_8, short_16, short_32, short_64)
