use Rattle.std.proofs.Common.{◌≡◌, ℕ, ◌-◌, ◌≤◌, List, [], length, Ok, sym, refl, ap, ◌∙◌, arith}
use Rattle.std.specs.Slice.Iter.{chunks_rest, chunks_size}
use Rattle.refusals.specs.declared.Fault.{Fault}
use Rattle.plans.specs.Tasks.{TaskView, task_views}
use Rattle.plans.specs.Record.{kind_meaning, records, add_records}
use Rattle.plans.proofs.Views.{views_few}
use Rattle.plans.proofs.Cut.{no_piece}
use Rattle.plans.proofs.Records.{added_ok, added_err, one_more, refused_stays, record_next, reads_err}
use Rattle.plans.proofs.record.Plan+Kind.from_bytes.Goals as goal

pub loop-record-init : goal.loop-record-init
loop-record-init c =
    let all : chunks_rest c.into_iter-record-iterator.result ≡ c.args.bytes.now =
    ap chunks_rest c.into_iter-record-iterator.ensures.into_iter_gives ∙ c.chunks-record-items.ensures.rest in
    let none : task_views kind_meaning c.new-plan.result.tasks ≡ [] = c.new-plan.ensures in (
      ap chunks_size c.into_iter-record-iterator.ensures.into_iter_gives ∙ c.chunks-record-items.ensures.size,
      rw (none, all) refl,
    )

pub loop-record-preserved : goal.loop-record-preserved
loop-record-preserved c =
    let ts : List TaskView = task_views kind_meaning c.loop-record.plan.tasks in
    let after : List TaskView = task_views kind_meaning c.add_record.new.self.tasks in
    let rest : List ℕ = chunks_rest c.next.new.self in
    let k : length c.loop-record.plan.tasks ≡ 8 = c.loop-record.plan.whole in
    let few : length ts ≤ 8 = omega (arith, views_few kind_meaning c.loop-record.plan.tasks) in
    let s = c.in-Some.ensures.steps in
    let next = record_next ts c.in-Some.record.now rest (chunks_rest c.loop-record.record-iterator) _ few c.loop-record.invariant.0 s.1.0 s.1.1 s.1.2 in
    let ok = added_ok _ after c.in_ok-add_record.field-0 _ c.in_ok-add_record.ensures.added in
    let long : 8 - length ts ≡ 9 - length after = omega (arith, one_more ts after _ ok) in (
      s.0 ∙ c.loop-record.invariant.0,
      sym (ap (λ n. add_records (Ok after) (records n rest)) long)
          ∙ sym (ap (λ x. add_records x (records (8 - length ts) rest)) ok) ∙ sym next ∙ c.loop-record.invariant.1,
    )

pub returns-in_err-add_record : goal.returns-in_err-add_record
returns-in_err-add_record c =
    let ts : List TaskView = task_views kind_meaning c.loop-record.plan.tasks in
    let rest : List ℕ = chunks_rest c.next.new.self in
    let f : Fault = c.in_err-add_record.field-0.0 in
    let k : length c.loop-record.plan.tasks ≡ 8 = c.loop-record.plan.whole in
    let few : length ts ≤ 8 = omega (arith, views_few kind_meaning c.loop-record.plan.tasks) in
    let s = c.in-Some.ensures.steps in
    let next = record_next ts c.in-Some.record.now rest (chunks_rest c.loop-record.record-iterator) _ few c.loop-record.invariant.0 s.1.0 s.1.1 s.1.2 in
    let err = added_err _ _ f _ c.in_err-add_record.ensures.added in
    reads_err c.from_residual.result f _ c.from_residual.ensures.0 c.from_residual.ensures.1
    (sym c.loop-record.invariant.1 ∙ next ∙ ap (λ x. add_records x (records (8 - length ts) rest)) err ∙ refused_stays f (records (8 - length ts) rest))

pub returns : goal.returns
returns c =
    let ts : List TaskView = task_views kind_meaning c.loop-record.plan.tasks in
    let none = no_piece 24 (9 - length ts) (chunks_rest c.loop-record.record-iterator) c.in-None.ensures.steps.1.0 in
    sym c.loop-record.invariant.1 ∙ ap (add_records (Ok ts)) none
