-- The places of a plan and of a state, one by one. Assumes nothing.
use Rattle.std.proofs.Common.{◌≡◌, ℕ, zero, suc, ◌+◌, ◌-◌, ◌*◌, ◌^◌, ◌<◌, ◌≤◌, Bool, false, List, [], ◌∷◌, map, length, drop, set, replicate, refl, ap, ◌∙◌, mul-le-mul, mul-one, arith, pow-add}
use Rattle.std.proofs.lemmas.Grind.{common_steps}
use Rattle.std.proofs.lemmas.List.{drop_more}
use Rattle.slot.specs.declared.state.TaskState.{TaskState}
use Rattle.plans.specs.Tasks.{TaskView}
use Rattle.slot.specs.Work.{sees}

-- seven places of at most four ways, and one more
pub four_pow : (i a w : ℕ) → i < 8 → a ≤ 4 ^ i → w ≤ 4 → a * w ≤ 65536
four_pow i a w h ha hw =
    let seven : ◌≡◌ {A = ℕ} 7 (i + (7 - i)) = omega arith in
    let e : 4 ^ 7 ≡ 4 ^ i * 4 ^ (7 - i) = ap (λ (x : ℕ). 4 ^ x) seven ∙ pow-add 4 i (7 - i) in
    let one : 1 ≤ 4 ^ (7 - i) = pow_one (7 - i) in
    let b : 4 ^ i * 1 ≤ 4 ^ i * 4 ^ (7 - i) = mul-le-mul (omega arith) one in
    let c : 4 ^ i ≤ 16384 = omega (arith, e, mul-one (4 ^ i)) in
    let c' : a ≤ 16384 = omega arith in
    let d : a * w ≤ 16384 * 4 = mul-le-mul {n₂ = 16384} {m₂ = 4} c' hw in
    omega arith
  where
    pow_one : (k : ℕ) → 1 ≤ 4 ^ k
    pow_one zero = omega arith
    pow_one (suc k) = let ih = pow_one k in let n : suc k ≡ k + 1 = omega arith in let e : 4 ^ suc k ≡ 4 ^ k * 4 = ap (λ (x : ℕ). 4 ^ x) n ∙ pow-add 4 k 1 in omega arith

pub four_all : (i a : ℕ) → i ≤ 8 → a ≤ 4 ^ i → a ≤ 65536
four_all zero a h ha = omega arith
four_all (suc i) a h ha =
    let n : suc i ≡ i + 1 = omega arith in
    let e : 4 ^ suc i ≡ 4 ^ i * 4 = ap (λ (x : ℕ). 4 ^ x) n ∙ pow-add 4 i 1 in
    omega (arith, e, four_pow i (4 ^ i) 4 (omega arith) (omega arith) (omega arith))

-- the flags of places without a task are off
pub no_flags : (n : ℕ) (ss : List TaskState) → length ss ≡ n → replicate n false ≡ map (λ _. false) ss
no_flags zero [] h = refl
no_flags zero (s ∷ ss) h = absurd (omega arith)
no_flags (suc n) [] h = absurd (omega arith)
no_flags (suc n) (s ∷ ss) h = ap (λ x. false ∷ x) (no_flags n ss (omega arith))

-- and are still all off past a place that was filled
pub flags_rest : (ss : List TaskState) (bs : List Bool) (i : ℕ) (v : TaskState) (b : Bool) → length ss ≡ length bs → i < length ss →
    drop i bs ≡ map (λ _. false) (drop i ss) → drop (i + 1) (set bs i b) ≡ map (λ _. false) (drop (i + 1) (set ss i v))
flags_rest ss bs i v b l h e =
    let f = drop_more bs i false (omega arith) in
    let g = drop_more ss i v h in
    grind (arith, common_steps)

-- as many are seen as there are tasks
pub sees_long : (ds : List TaskView) (ss : List TaskState) → length ds ≤ length ss → length (sees ds ss) ≡ length ds
sees_long [] ss h = refl
sees_long (d ∷ ds) [] h = omega arith
sees_long (d ∷ ds) (s ∷ ss) h = ap suc (sees_long ds ss (omega arith))
