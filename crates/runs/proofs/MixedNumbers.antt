-- A way of the plan from a way of each stream. Assumes nothing.
use Rattle.std.proofs.Common.{◌≡◌, ℕ, zero, suc, ◌+◌, ◌*◌, ◌/◌, ◌<◌, false, List, [], ◌∷◌, get_or, Some, sym, refl, ap, ◌∙◌, mul_comm, arith}
use lib.Arith.{digits_lt, digits_div, digits_mod}
use Rattle.std.specs.List.{slice_get}
use Rattle.slot.specs.declared.state.TaskState.{TaskState}
use Rattle.runs.proofs.Releases.{arrives_is}
use Rattle.slot.specs.Arrivals.{choices, come, arrived}
use Rattle.plans.specs.Tasks.{TaskView}
use Rattle.slot.specs.Arrivals.{arrivals_in}

abbrev pub mixed : List TaskView → List TaskState → (ℕ → ℕ) → ℕ
mixed [] ss h = 0
mixed (d ∷ ds) [] h = 0
mixed (d ∷ ds) (s ∷ ss) h = mixed ds ss (λ i. h (suc i)) * d.stream.ways s.position + h 0

abbrev pub Fits : List TaskView → List TaskState → (ℕ → ℕ) → Type 0
Fits ds ss h = (i : ℕ) (d : TaskView) (s : TaskState) → slice_get ds i ≡ Some d → slice_get ss i ≡ Some s → h i < d.stream.ways s.position

pub mixed_lt : (ds : List TaskView) (ss : List TaskState) (h : ℕ → ℕ) → Fits ds ss h → mixed ds ss h < choices ds ss
mixed_lt [] ss h f = omega arith
mixed_lt (d ∷ ds) [] h f = omega arith
mixed_lt (d ∷ ds) (s ∷ ss) h f =
    let ih = mixed_lt ds ss (λ i. h (suc i)) (λ i. f (suc i)) in
    let g = f 0 d s refl refl in
    rw (mul_comm (d.stream.ways s.position) (choices ds ss)) (digits_lt ih g)

pub record MixedAt (ds : List TaskView) (ss : List TaskState) (a i w : ℕ) (d : TaskView) (s : TaskState) : Type 0 where
  pub after : TaskState
  pub m_nth : slice_get (arrived ds ss a) i ≡ Some after
  pub m_position : after.position ≡ (d.stream.answer s.position w).1
  pub m_shows : get_or (arrivals_in ds ss a) i false ≡ (d.stream.answer s.position w).0

pub mixed_at : (ds : List TaskView) (ss : List TaskState) (h : ℕ → ℕ) → Fits ds ss h → (i : ℕ) (d : TaskView) (s : TaskState) → slice_get ds i ≡ Some d → slice_get ss i ≡ Some s →
    MixedAt ds ss (mixed ds ss h) i (h i) d s
mixed_at [] ss h f i d s hd hs = absurd (cc)
mixed_at (e ∷ ds) [] h f i d s hd hs = absurd (cc)
mixed_at (e ∷ ds) (t ∷ ss) h f zero d s hd hs =
    let de : e ≡ d = cc in
    let se : t ≡ s = cc in
    let g = f 0 e t refl refl in
    let m = digits_mod (mixed ds ss (λ i. h (suc i))) g in
    rw (sym de, sym se) (record {
      after = (come e t (mixed (e ∷ ds) (t ∷ ss) h)).state;
      m_nth = refl;
      m_position = ap (λ x. (e.stream.answer t.position x).1) m;
      m_shows = arrives_is _ t.job ∙ ap (λ x. (e.stream.answer t.position x).0) m;
    })
mixed_at (e ∷ ds) (t ∷ ss) h f (suc i) d s hd hs =
    let g = f 0 e t refl refl in
    let q = digits_div (mixed ds ss (λ i. h (suc i))) g in
    let r = mixed_at ds ss (λ i. h (suc i)) (λ i. f (suc i)) i d s hd hs in
    let r' : MixedAt ds ss (mixed (e ∷ ds) (t ∷ ss) h / e.stream.ways t.position) i (h (suc i)) d s = rw q r in
    record { after = r'.after; m_nth = r'.m_nth; m_position = r'.m_position; m_shows = r'.m_shows }
