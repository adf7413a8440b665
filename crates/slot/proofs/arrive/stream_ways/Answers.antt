use Rattle.std.proofs.lemmas.Grind.{common_steps}
use Rattle.std.proofs.Common.{◌≤◌, sym, ap, ◌∙◌, mul-le-mul, arith, pow-add}
use mir.Facts.{Fits-below}
use Rattle.std.proofs.lemmas.List.{drop_all}
use Rattle.plans.specs.Tasks.{task_views}
use Rattle.plans.proofs.Views.{task_views_end}
use Rattle.slot.proofs.Lists.{four_pow, four_all}
use Rattle.slot.proofs.arrive.stream_ways.Goals as goal

pub overflow_mul-all : goal.overflow_mul-all
overflow_mul-all g c =
    let few : c.from-all.result ≤ 4 = omega (arith, c.ways.ensures.few) in
    Fits-below tt (four_pow c.loop-i.i c.loop-i.all c.from-all.result (omega arith) c.loop-i.invariant.most few)

pub loop-i-preserved : goal.loop-i-preserved
loop-i-preserved g c =
    let i = c.loop-i.i in
    let few : c.from-all.result ≤ 4 = omega (arith, c.ways.ensures.few) in
    let some : 1 ≤ c.from-all.result = omega (arith, c.ways.ensures.some) in
    record {
      eight = c.loop-i.invariant.eight;
      most = rw (pow-add 4 i 1) (mul-le-mul c.loop-i.invariant.most few);
      some = mul-le-mul {n₁ = 1} {m₁ = 1} c.loop-i.invariant.some some;
      value = grind (arith, common_steps);
    }

pub returns-after-loop-i : goal.returns-after-loop-i
returns-after-loop-i g c =
    let end = ap (task_views g.S.Stream.meaning) (drop_all c.loop-i.i c.as_slice-place-items.result.now (omega arith)) in
    record {
      value = grind (arith, common_steps);
      some = c.loop-i.invariant.some;
      few = four_all c.loop-i.i c.loop-i.all (omega (arith, c.loop-i.invariant.eight)) c.loop-i.invariant.most;
    }

pub returns-in_default : goal.returns-in_default
returns-in_default g c =
    let end = task_views_end g.S.Stream.meaning c.as_slice-place-items.result.now c.loop-i.i _ (omega arith) (sym c.place-item.is ∙ c.in_default.is) in
    record {
      value = grind (arith, common_steps);
      some = c.loop-i.invariant.some;
      few = four_all c.loop-i.i c.loop-i.all (omega (arith, c.loop-i.invariant.eight)) c.loop-i.invariant.most;
    }
