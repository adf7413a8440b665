-- The letters of what a listing does.
use Rattle.std.specs.Prelude.{ℕ}
use Rattle.listing.specs.declared.part.Part.{Part}
use Rattle.listing.specs.declared.part.Part.TheVariants.{Plan, Evidence, Steps}

-- P, E and S.
abbrev pub part_letter : Part → ℕ
part_letter Plan = 80
part_letter Evidence = 69
part_letter Steps = 83
