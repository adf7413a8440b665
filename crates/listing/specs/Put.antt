-- Text put onto a page.
use Rattle.std.specs.Prelude.{◌≡◌, ℕ, ◌+◌, ◌-◌, List, ◌++◌, length, take, drop}
use Rattle.listing.specs.declared.page.Page.{Page}

-- What is written, what the place holds after it, and how many bytes that is.
abbrev pub written : Page → List ℕ
written page = take page.at page.place.now

abbrev pub rest : Page → List ℕ
rest page = drop page.at page.place.now

abbrev pub room : Page → ℕ
room page = length page.place.now - page.at

-- The bytes stand after what was written before; the rest of the place is as it was.
pub record Put (bytes : List ℕ) (before after : Page) : Type 0 where
  pub written : written after ≡ written before ++ bytes
  pub rest : rest after ≡ drop (length bytes) (rest before)
  pub room : room before ≡ room after + length bytes
  pub same : after.place.ghost_name ≡ before.place.ghost_name
