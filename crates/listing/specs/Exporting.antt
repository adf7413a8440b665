-- The listing, as a host in C sees it.
use Rattle.std.specs.Prelude.{◌≡◌, ℕ, ◌-◌, ◌≤◌, List, length, ℤ, pos, negsuc, Ok, Err, Result}
use Rattle.refusals.specs.declared.Fault.{Fault}
use Rattle.refusals.specs.Refusals.{number_of}
use Rattle.dispatch.specs.Picks.{Picks}
use Rattle.listing.specs.Listing.{listing_of, ListingLaw, answer_for, place_after}

-- An answer as one signed number: a length as itself, a refusal as its number below zero (`negsuc n` is minus one more than n).
abbrev pub code : Result ℕ Fault → ℤ
code (Ok n) = pos n
code (Err f) = negsuc (number_of f.refusal - 1)

-- The answer of the listing as a number, its text, and the law that it rests on.
pub record Exports (picks : Picks) (size : ℕ) (plan evidence : List ℕ) (n : ℤ) (place place' : List ℕ) : Type 0 where
  pub number : n ≡ code (answer_for (listing_of picks size plan evidence) place)
  pub text : place' ≡ place_after (listing_of picks size plan evidence) place
  pub law : 512 ≤ length place → ListingLaw picks size plan evidence
