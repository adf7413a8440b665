-- Which tasks have a job, and that each rule is work-conserving. Assumes nothing.
use Rattle.std.specs.Prelude.{◌≡◌, ℕ, zero, suc, ◌+◌, ◌-◌, ◌<◌, ◌≤◌, Bool, true, false, ◌&&◌, ◌||◌, ◌⊎◌, List, [], ◌∷◌, length, is_some, ◌==◌, nat_lt, slice_index_or, refl}
use Rattle.std.proofs.Common.{sym, ap, ◌∙◌, inl, inr, arith}
use Rattle.std.proofs.lemmas.Bool.{cases_Bool}
use Rattle.std.proofs.lemmas.Bool.Decides.{nat_tests}
use Rattle.dispatch.specs.declared.Seen.{Seen}
use Rattle.dispatch.specs.Picks.{Picks, job_at, has_job, WorkConserving, Best, better, best, greatest, keeping}

pub job_read : (ts : List Seen) (i : ℕ) (d : Seen) → i < length ts → job_at ts i ≡ is_some (slice_index_or ts i d).age
job_read [] i d h = elim (let no : ⊥ = omega arith in no) [ ]
job_read (t ∷ ts) zero d h = refl
job_read (t ∷ ts) (suc i) d h = job_read ts i d (omega arith)

pub job_past : (ts : List Seen) (i : ℕ) → length ts ≤ i → job_at ts i ≡ false
job_past [] i h = refl
job_past (t ∷ ts) zero h = elim (let no : ⊥ = omega arith in no) [ ]
job_past (t ∷ ts) (suc i) h = job_past ts i (omega arith)

-- the task of a number from 1, by its index
pub has_job_at : (ts : List Seen) (n : ℕ) → 1 ≤ n → has_job ts n ≡ job_at ts (n - 1)
has_job_at ts zero h = elim (let no : ⊥ = omega arith in no) [ ]
has_job_at ts (suc i) h = let e : suc i - 1 ≡ i = omega arith in rw e refl

-- Where `best` ends: with what it had, if that was some task or none has a job, or with a task of the list.
pub record Ends (ts : List Seen) (n : ℕ) (b : Best) (r : ℕ) : Type 0 where
  pub which : (r ≡ b.task) ⊎ ((i : ℕ) × (r ≡ n + i) × (job_at ts i ≡ true))
  pub none : r ≡ 0 → (i : ℕ) → job_at ts i ≡ false
  pub kept : r ≡ 0 → b.task ≡ 0

pub best_ends : (key : Seen → ℕ) (ts : List Seen) (n : ℕ) (b : Best) → 1 ≤ n → Ends ts n b (best key n ts b).task
best_ends key [] n b h = record { which = inl refl; none = λ _ _. refl; kept = λ e. e }
best_ends key (t ∷ ts) n b h =
    let next : Best = better key n t b in
    let r : ℕ = (best key (n + 1) ts next).task in
    let ih : Ends ts (n + 1) next r = best_ends key ts (n + 1) next (omega arith) in
    let test : Bool = is_some t.age && (b.task == 0 || nat_lt b.rank (key t)) in
    record {
      which = elim ih.which [
        | inl e ↦ elim (cases_Bool test) [
          | inl y ↦
              let z : r ≡ n = e ∙ rw y refl in
              let s : is_some t.age ≡ true = grind (arith, nat_tests) in
              inr (0, omega arith, s)
          | inr f ↦ inl (e ∙ rw f refl)
        ]
        | inr x ↦ inr (suc x.0, omega (arith, x.1), x.2)
      ];
      none = λ z. elim [
        | zero ↦ elim (cases_Bool (is_some t.age)) [
          | inl y ↦
              let k : next.task ≡ 0 = ih.kept z in
              elim (cases_Bool test) [
                | inl u ↦ let n0 : n ≡ 0 = sym (rw u refl) ∙ k in elim (let no : ⊥ = omega arith in no) [ ]
                | inr u ↦
                    let b0 : b.task ≡ 0 = sym (rw u refl) ∙ k in
                    let v : test ≡ true = rw (y, b0) refl in
                    let q : ◌≡◌ {A = ℕ} 0 1 = cc in elim (let no : ⊥ = omega arith in no) [ ]
              ]
          | inr y ↦ y
        ]
        | suc i ↦ ih.none z i
      ];
      kept = λ z.
          let k : next.task ≡ 0 = ih.kept z in
          elim (cases_Bool test) [
            | inl u ↦ let n0 : n ≡ 0 = sym (rw u refl) ∙ k in elim (let no : ⊥ = omega arith in no) [ ]
            | inr u ↦ sym (rw u refl) ∙ k
          ];
    }

pub greatest_conserves : (key : Seen → ℕ) → WorkConserving (greatest key)
greatest_conserves key = record {
  idle = λ ts last none.
      let e = best_ends key ts 1 (record { task = 0; rank = 0 }) (omega arith) in
      elim e.which [
        | inl z ↦ z
        | inr x ↦
            let y = none (suc x.0) in
            let w = x.2 in
            let q : ◌≡◌ {A = ℕ} 0 1 = cc in elim (let no : ⊥ = omega arith in no) [ ]
      ];
  idle_only = λ ts last z.
      let e = best_ends key ts 1 (record { task = 0; rank = 0 }) (omega arith) in
      by_number ts (e.none z);
  busy = λ ts last n some.
      let r : ℕ = greatest key ts last in
      let e = best_ends key ts 1 (record { task = 0; rank = 0 }) (omega arith) in
      elim e.which [
        | inl z ↦ elim (nobody ts n some (e.none z)) [ ]
        | inr x ↦
            let z : r ≡ suc x.0 = omega (arith, x.1) in
            ap (has_job ts) z ∙ x.2
      ];
} where
  by_number : (ts : List Seen) → ((i : ℕ) → job_at ts i ≡ false) → (n : ℕ) → has_job ts n ≡ false
  by_number ts f zero = refl
  by_number ts f (suc i) = f i

  nobody : (ts : List Seen) (n : ℕ) → has_job ts n ≡ true → ((i : ℕ) → job_at ts i ≡ false) → ⊥
  nobody ts zero h f = let q : ◌≡◌ {A = ℕ} 0 1 = cc in omega arith
  nobody ts (suc i) h f = let g = f i in let q : ◌≡◌ {A = ℕ} 0 1 = cc in omega arith

pub keeping_conserves : (below : Picks) → WorkConserving below → WorkConserving (keeping below)
keeping_conserves below law = record {
  idle = λ ts last none. let e = none last in rw e (law.idle ts last none);
  idle_only = λ ts last.
      elim (cases_Bool (has_job ts last)) [
        | inl e ↦ rw e (λ z.
            let h : has_job ts 0 ≡ true = sym (ap (has_job ts) z) ∙ e in
            let q : ◌≡◌ {A = ℕ} 0 1 = cc in elim (let no : ⊥ = omega arith in no) [ ])
        | inr e ↦ rw e (law.idle_only ts last)
      ];
  busy = λ ts last n some.
      elim (cases_Bool (has_job ts last)) [
        | inl e ↦ rw e e
        | inr e ↦ rw e (law.busy ts last n some)
      ];
}
