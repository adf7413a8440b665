-- A text that is put but for its last line.
use Rattle.std.specs.Prelude.{◌≡◌, List, ℕ, ◌++◌, Result}
use Rattle.listing.specs.declared.page.Page.{Page}
use Rattle.listing.specs.declared.part.Halt.{Halt}
use Rattle.listing.specs.Bringing.{halt_of}
use Rattle.listing.specs.Lines.{halt_lines}
use Rattle.listing.specs.Put.{Put}

-- The text is put but for the line of the refusal that ended the work, if one did.
pub record PutsBut {A : Type 0} (text : List ℕ) (r : Result A Halt) (before after : Page) : Type 0 where
  pub shown : List ℕ
  pub put : Put shown before after
  pub whole : text ≡ shown ++ halt_lines (halt_of r)
