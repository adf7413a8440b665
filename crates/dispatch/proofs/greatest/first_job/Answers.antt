use Rattle.std.proofs.Common.{◌≡◌, ◌+◌, get_or, drop, None, sym, refl, ap, ◌∙◌}
use Rattle.std.proofs.lemmas.List.{at_drop_more, at_drop_all}
use Rattle.dispatch.specs.declared.Seen.{Seen}
use Rattle.dispatch.specs.Picks.{Best, better, best, greatest}
use Rattle.dispatch.proofs.Foremost.{greatest_first}
use Rattle.dispatch.proofs.greatest.first_job.Goals as goal
use Rattle.dispatch.proofs.greatest.first_job.Goals.{then-takes_over, else-takes_over}

abbrev nobody : Seen
nobody = record { priority = 0; age = None }

pub loop-i-preserved : goal.loop-i-preserved
loop-i-preserved g c =
    let xs = c.args.tasks.now in
    let i = c.loop-i.i in
    let x : Seen = get_or xs i nobody in
    let key = g.K.Keyed.key c.args.rule.now in
    let b : Best = record { task = c.loop-i.task; rank = c.loop-i.rank } in
    let new : Best = record { task = c.if-takes_over.task; rank = c.if-takes_over.rank } in
    let went : new ≡ better key (i + 1) x b =
    elim c.if-takes_over.branch [
      | then-takes_over w ↦ let y = rw c.key_of-mine.ensures at (sym c.takes_over.ensures ∙ w.if-takes_over.true) in rw (w.task-is, w.rank-is, c.key_of-mine.ensures, y) refl
      | else-takes_over w ↦ let y = rw c.key_of-mine.ensures at (sym c.takes_over.ensures ∙ w.if-takes_over.false) in rw (w.task-is, w.rank-is, y) refl
    ] in
    let more : (best key (i + 1) (drop i xs) b).task ≡ (best key (i + 1 + 1) (drop (i + 1) xs) (better key (i + 1) x b)).task =
    at_drop_more (λ ts. (best key (i + 1) ts b).task) xs i nobody c.loop-i-test.true in
    ap (λ y. (best key (i + 1 + 1) (drop (i + 1) xs) y).task) went ∙ sym more ∙ c.loop-i.invariant

pub returns : goal.returns
returns g c =
    let xs = c.args.tasks.now in
    let i = c.loop-i.i in
    let key = g.K.Keyed.key c.args.rule.now in
    let is : c.loop-i.task ≡ greatest key xs 0 =
    sym (at_drop_all (λ ts. (best key (i + 1) ts (record { task = c.loop-i.task; rank = c.loop-i.rank })).task) xs i c.loop-i-test.false)
    ∙ c.loop-i.invariant in
    record { value = is; first = rw is (greatest_first key xs) }
