use Rattle.std.proofs.Common.{◌≡◌, ◌⊎◌, inl, inr, [], ◌∷◌, codes, decimal, refl}
use Rattle.exploration.specs.declared.Stage.{Stage}
use Rattle.exploration.specs.declared.Stage.TheVariants.{Walking, Complete}
use Rattle.listing.specs.Lines.{stage_field, late_fields}
use Rattle.listing.proofs.Puts.{field_put}
use Rattle.listing.proofs.page.Page.put_stage.Goals as goal

-- a stage that is not late adds nothing
none_late : (s : Stage) → (s ≡ Walking) ⊎ (s ≡ Complete) → late_fields s ≡ []
none_late s h = elim h [ inl e ↦ rw e refl | inr e ↦ rw e refl ]

pub returns-in-Walking-clause-put : goal.returns-in-Walking-clause-put
returns-in-Walking-clause-put c =
    rw (none_late c.args.stage c.in-Walking.is)
    (field_put (stage_field c.args.stage) 32 _ _ _ _ (rw c.name.ensures.value at c.put_word.ensures.put)
    (field_put (decimal c.args.held) 32 _ _ _ _ c.put_number.ensures.put c.put_number-in-Walking.ensures.put))

pub returns-in-Late-clause-put : goal.returns-in-Late-clause-put
returns-in-Late-clause-put c =
    rw (c.in-Late.is, ← c.letter.ensures)
    (field_put (codes "late") 32 _ _ _ _ (rw (c.name.ensures.value, c.in-Late.is) at c.put_word.ensures.put)
    (field_put (decimal c.args.held) 32 _ _ _ _ c.put_number.ensures.put
    (field_put (decimal c.args.walked) 32 _ _ _ _ c.put_number-in-Late.ensures.put
    (field_put (decimal c.in-Late.task) 32 (c.letter.result ∷ 10 ∷ []) _ _ _ c.put_number-in-Late-2.ensures.put c.put_word-in-Late.ensures.put))))
