-- One task's job through a run. Assumes nothing.
use Rattle.std.proofs.Common.{◌≡◌, ℕ, ◌+◌, ◌-◌, ◌<◌, ◌≤◌, Bool, true, false, cond, leb, ◌⊎◌, Some, None, Option, sym, refl, ap, ◌∙◌, inl, inr, add-one, arith, leb-false, leb-true}
use Rattle.std.proofs.lemmas.Bool.{cases_Bool, cases_eq, cases_order, both_ways}
use Rattle.slot.specs.declared.state.Job.{Job}
use Rattle.plans.specs.Tasks.{TaskView}
use Rattle.slot.specs.Work.{serve_job}
use Rattle.runs.proofs.Releases.{given}
use Rattle.runs.specs.Dispatch.{AgeAsShown}
use Rattle.runs.specs.Pending.{PendingBefore, PendingIn}
use Rattle.runs.specs.Response.{executed, Responds}
use Rattle.runs.specs.Run.{arrives, is_picked, response, Timed}
use Rattle.slot.specs.declared.event.Event.{Event}
use Rattle.slot.specs.Work.{age_of}

-- what a slot does with a job
pub record Ends (picked : Bool) (d : TaskView) (j : Job) (r : Option ℕ) (o : Option Job) (tardy : Bool) : Type 0 where
  pub e_picked : picked ≡ true
  pub e_response : r ≡ Some (j.age + 1)
  pub e_job : o ≡ None
  pub e_enough : d.best ≤ j.work + 1
  pub e_timely : tardy ≡ false

pub record Stays (picked : Bool) (d : TaskView) (j : Job) (r : Option ℕ) (o : Option Job) (tardy : Bool) : Type 0 where
  pub s_response : r ≡ None
  pub s_job : o ≡ Some (record { work = j.work + cond picked 1 0; age = j.age + 1 })
  pub s_below : picked ≡ true → j.work + 1 < d.worst
  pub s_timely : tardy ≡ leb d.deadline (j.age + 1)

abbrev pub Does : Bool → Bool → TaskView → ℕ → Job → Type 0
Does picked stay d p j =
    Ends picked d j (serve_job picked stay d p (Some j)).response (serve_job picked stay d p (Some j)).state.job (serve_job picked stay d p (Some j)).late
    ⊎ Stays picked d j (serve_job picked stay d p (Some j)).response (serve_job picked stay d p (Some j)).state.job (serve_job picked stay d p (Some j)).late

pub does : (picked stay : Bool) (d : TaskView) (p : ℕ) (j : Job) → Timed d → Does picked stay d p j
does false stay d p j t =
    let e : j.work ≡ j.work + 0 = omega arith in
    inr (record { s_response = refl; s_job = ap (λ (w : ℕ). Some (record { work = w; age = j.age + 1 })) e; s_below = λ q. absurd (cc); s_timely = refl })
does true stay d p j t =
    elim (cases_Bool (leb d.worst (j.work + 1))) [
      | inl y ↦ rw y (inl (record { e_picked = refl; e_response = refl; e_job = refl; e_enough = omega (arith, leb-true d.worst (j.work + 1) y, t.order); e_timely = refl }))
      | inr y ↦ elim (cases_Bool (leb d.best (j.work + 1))) [
        | inl z ↦ elim (cases_Bool stay) [
          | inl u ↦ rw (y, z, u) (inr (record { s_response = refl; s_job = refl; s_below = λ _. leb-false d.worst (j.work + 1) y; s_timely = refl }))
          | inr u ↦ rw (y, z, u) (inl (record { e_picked = refl; e_response = refl; e_job = refl; e_enough = leb-true d.best (j.work + 1) z; e_timely = refl }))
        ]
        | inr z ↦ rw (y, z) (inr (record { s_response = refl; s_job = refl; s_below = λ _. leb-false d.worst (j.work + 1) y; s_timely = refl }))
      ]
    ]

module _ (f : ℕ → Event) (k : ℕ) (d : TaskView) (timed : Timed d) where
  -- every job that came before slot n has ended before slot n
  pub record Closed (n : ℕ) : Type 0 where
    pub closed : (a : ℕ) → a < n → arrives (f a) k ≡ true → (e : ℕ) × (a ≤ e) × (e < n) × (x : ℕ) × (response (f e) k ≡ Some x)

  -- the job stands before slot n
  pub record Alive (n : ℕ) (j : Job) : Type 0 where
    pub l_some : 1 ≤ j.age
    pub l_within : j.age ≤ n
    pub l_came : arrives (f (n - j.age)) k ≡ true
    pub l_alone : (i : ℕ) → n - j.age < i → i < n → arrives (f i) k ≡ false
    pub l_unended : (i : ℕ) → n - j.age ≤ i → i < n → response (f i) k ≡ None
    pub l_work : executed f k (n - j.age) j.age ≡ j.work
    pub l_below : j.work < d.worst
    pub l_young : j.age < d.deadline

  abbrev pub Lives : ℕ → Option Job → Type 0
  Lives n None = Closed n
  Lives n (Some j) = Alive n j

  -- the job stands in slot n, after the arrivals
  pub record Mid (n : ℕ) (j : Job) : Type 0 where
    pub within : j.age ≤ n
    pub came : arrives (f (n - j.age)) k ≡ true
    pub alone : (i : ℕ) → n - j.age < i → i ≤ n → arrives (f i) k ≡ false
    pub unended : (i : ℕ) → n - j.age ≤ i → i < n → response (f i) k ≡ None
    pub work : executed f k (n - j.age) j.age ≡ j.work
    pub below : j.work < d.worst
    pub young : j.age < d.deadline

  pub fresh : (n : ℕ) → arrives (f n) k ≡ true → Mid n (record { work = 0; age = 0 })
  fresh n b =
      let z : n - 0 ≡ n = omega arith in
      record {
        within = omega arith;
        came = rw z b;
        alone = λ i p q. absurd (omega arith);
        unended = λ i p q. absurd (omega arith);
        work = refl;
        below = omega (arith, timed.some, timed.order);
        young = omega (arith, timed.some, timed.order, timed.fit);
      }

  pub older : (n : ℕ) (j : Job) → arrives (f n) k ≡ false → Alive n j → Mid n j
  older n j b l = record {
    within = l.l_within;
    came = l.l_came;
    alone = λ i p q. elim (cases_eq i n) [ inl e ↦ rw e b | inr e ↦ l.l_alone i p (omega arith) ];
    unended = l.l_unended;
    work = l.l_work;
    below = l.l_below;
    young = l.l_young;
  }

  -- how long the job was picked, with slot n
  pub executed_on : (n : ℕ) (j : Job) → Mid n j → executed f k (n - j.age) (j.age + 1) ≡ j.work + cond (is_picked (f n) k) 1 0
  executed_on n j m =
      let e : n - j.age + j.age ≡ n = omega (arith, m.within) in
      rw (add-one, e, m.work) refl

  pub answered : (n : ℕ) (j : Job) (r : Option ℕ) (o : Option Job) (t : Bool) → Mid n j → Ends (is_picked (f n) k) d j r o t → Responds f k d n (j.age + 1)
  answered n j r o t m e =
      let s : n + 1 - (j.age + 1) ≡ n - j.age = omega arith in
      let w : executed f k (n - j.age) (j.age + 1) ≡ j.work + 1 = executed_on n j m ∙ rw e.e_picked refl in
      record {
        some = omega arith;
        within = omega (arith, m.within);
        came = rw s m.came;
        alone = rw s m.alone;
        unended = rw s m.unended;
        picked = e.e_picked;
        best = rw (s, w) e.e_enough;
        worst = rw (s, w) (omega (arith, m.below));
      }

  -- a job that ends closes all before it
  pub ended_closed : (n : ℕ) (x : ℕ) → response (f n) k ≡ Some x → Closed (n + 1)
  ended_closed n x h = record { closed = λ a p b. (n, omega arith, omega arith, x, h) }

  pub quiet_closed : (n : ℕ) → arrives (f n) k ≡ false → Closed n → Closed (n + 1)
  quiet_closed n b c = record {
    closed = λ a p q. elim (cases_eq a n) [
      | inl e ↦ let q' : arrives (f n) k ≡ true = rw e at q in absurd (cc)
      | inr e ↦ let r = c.closed a (omega arith) q in (r.0, r.1, omega (arith, r.2), r.3, r.4)
    ];
  }

  pub stayed : (n : ℕ) (j : Job) (r : Option ℕ) (o : Option Job) (t : Bool) → Mid n j → Stays (is_picked (f n) k) d j r o t → response (f n) k ≡ r → t ≡ false →
      Alive (n + 1) (record { work = j.work + cond (is_picked (f n) k) 1 0; age = j.age + 1 })
  stayed n j r o t m e hr ht =
      let s : n + 1 - (j.age + 1) ≡ n - j.age = omega arith in
      let late : leb d.deadline (j.age + 1) ≡ false = sym e.s_timely ∙ ht in
      record {
        l_some = omega arith;
        l_within = omega (arith, m.within);
        l_came = rw s m.came;
        l_alone = rw s (λ i p q. m.alone i p (omega arith));
        l_unended = rw s (λ i p q. elim (cases_eq i n) [ inl z ↦ rw z (hr ∙ e.s_response) | inr z ↦ m.unended i p (omega arith) ]);
        l_work = rw s (executed_on n j m);
        l_below = elim (cases_Bool (is_picked (f n) k)) [ inl y ↦ rw y (e.s_below y) | inr y ↦ rw y (omega (arith, m.below)) ];
        l_young = leb-false d.deadline (j.age + 1) late;
      }

  -- a job that reaches its deadline
  abbrev pub Expired : ℕ → Type 0
  Expired n = (a : ℕ) × PendingBefore f k a (n + 1) × (n + 1 ≡ a + d.deadline)

  pub expired : (n : ℕ) (j : Job) (r : Option ℕ) (o : Option Job) (t : Bool) → Mid n j → Stays (is_picked (f n) k) d j r o t → response (f n) k ≡ r → t ≡ true → Expired n
  expired n j r o t m e hr ht =
      let late : leb d.deadline (j.age + 1) ≡ true = sym e.s_timely ∙ ht in (
        n - j.age,
        record {
          before = omega arith;
          came = m.came;
          alone = λ i p q. m.alone i p (omega arith);
          unended = λ i p q. elim (cases_eq i n) [ inl z ↦ rw z (hr ∙ e.s_response) | inr z ↦ m.unended i p (omega arith) ];
        },
        omega (arith, leb-true d.deadline (j.age + 1) late, m.young, m.within),
      )

  -- what is open stands
  pub none_pending : (n a : ℕ) → Closed n → PendingBefore f k a n → ⊥
  none_pending n a c o =
      let r = c.closed a o.before o.came in
      let x : response (f r.0) k ≡ None = o.unended r.0 r.1 r.2 in
      let y : None ≡ Some r.3 = sym x ∙ r.4 in
      cc

  pub some_pending : (n a : ℕ) (j : Job) → Alive n j → PendingBefore f k a n → a ≡ n - j.age
  some_pending n a j l o =
      elim (cases_order a (n - j.age)) [
        | inl e ↦ e
        | inr c ↦ elim c [
          | inl p ↦
              let x = o.alone (n - j.age) p (omega (arith, l.l_some, l.l_within)) in
              elim (both_ways (arrives (f (n - j.age)) k) x l.l_came) [ ]
          | inr p ↦
              let x = l.l_alone a p o.before in
              elim (both_ways (arrives (f a) k) x o.came) [ ]
        ]
      ]

  pub lives_young : (n : ℕ) (o : Option Job) → Lives (n + 1) o → Expired n → ⊥
  lives_young n None l e = none_pending (n + 1) e.0 l e.1
  lives_young n (Some j) l e = let q = some_pending (n + 1) e.0 j l e.1 in omega (arith, q, e.2, l.l_young, l.l_within)

  pub mid_of : (n : ℕ) (o : Option Job) (j : Job) → Lives n o → (arrives (f n) k ≡ true → o ≡ None) → given (arrives (f n) k) o ≡ Some j → Mid n j
  mid_of n None j l fr h =
      elim (cases_Bool (arrives (f n) k)) [
        | inl y ↦
            let h' : Some (record { work = 0; age = 0 }) ≡ Some j = rw y at h in
            let e : record { work = 0; age = 0 } ≡ j = cc in
            rw (sym e) (fresh n y)
        | inr y ↦
            let h' : None ≡ Some j = rw y at h in
            absurd (cc)
      ]
  mid_of n (Some o) j l fr h =
      elim (cases_Bool (arrives (f n) k)) [
        | inl y ↦ let h' : Some o ≡ None = fr y in absurd (cc)
        | inr y ↦
            let h' : Some o ≡ Some j = rw y at h in
            let e : o ≡ j = cc in
            rw (sym e) (older n o y l)
      ]

  pub closed_of : (n : ℕ) (o : Option Job) → Lives n o → given (arrives (f n) k) o ≡ None → Closed (n + 1)
  closed_of n None l h =
      elim (cases_Bool (arrives (f n) k)) [
        | inl y ↦
            let h' : ◌≡◌ {A = Option Job} (Some (record { work = 0; age = 0 })) None = rw y at h in
            absurd (cc)
        | inr y ↦ quiet_closed n y l
      ]
  closed_of n (Some o) l h =
      elim (cases_Bool (arrives (f n) k)) [
        | inl y ↦
            let h' : Some o ≡ None = rw y at h in
            absurd (cc)
        | inr y ↦
            let h' : Some o ≡ None = rw y at h in
            absurd (cc)
      ]

  -- what the rule sees
  unseen : (n a : ℕ) → arrives (f n) k ≡ false → Closed n → PendingIn f k a n → ⊥
  unseen n a b c w =
      elim (cases_eq a n) [
        | inl e ↦ let q : arrives (f n) k ≡ true = rw e at w.came in both_ways (arrives (f n) k) b q
        | inr e ↦
            none_pending n a c (record { before = omega (arith, w.before); came = w.came; alone = λ i p q. w.alone i p (omega arith); unended = w.unended })
      ]

  unseen_of : (n : ℕ) (o : Option Job) → Lives n o → given (arrives (f n) k) o ≡ None → (a : ℕ) → PendingIn f k a n → ⊥
  unseen_of n None l h a w =
      elim (cases_Bool (arrives (f n) k)) [
        | inl y ↦
            let h' : ◌≡◌ {A = Option Job} (Some (record { work = 0; age = 0 })) None = rw y at h in
            absurd (cc)
        | inr y ↦ unseen n a y l w
      ]
  unseen_of n (Some o) l h a w =
      elim (cases_Bool (arrives (f n) k)) [
        | inl y ↦
            let h' : Some o ≡ None = rw y at h in
            absurd (cc)
        | inr y ↦
            let h' : Some o ≡ None = rw y at h in
            absurd (cc)
      ]

  pub age_as_shown : (n : ℕ) (o o' : Option Job) → o' ≡ given (arrives (f n) k) o → Lives n o → (arrives (f n) k ≡ true → o ≡ None) → AgeAsShown f k n (age_of o')
  age_as_shown n o None e l fr = unseen_of n o l (sym e)
  age_as_shown n o (Some j) e l fr =
      let m = mid_of n o j l fr (sym e) in
      (m.within, record { before = omega arith; came = m.came; alone = m.alone; unended = m.unended })

  -- one slot of the task
  pub record One (n : ℕ) (o : Option Job) (tardy : Bool) : Type 0 where
    pub law : (x : ℕ) → response (f n) k ≡ Some x → Responds f k d n x
    pub onward : tardy ≡ false → Lives (n + 1) o
    pub expires : tardy ≡ true → Expired n

  pub one_slot : (n p : ℕ) (stay : Bool) (o o' : Option Job) → o' ≡ given (arrives (f n) k) o → Lives n o → (arrives (f n) k ≡ true → o ≡ None) →
      response (f n) k ≡ (serve_job (is_picked (f n) k) stay d p o').response →
      One n (serve_job (is_picked (f n) k) stay d p o').state.job (serve_job (is_picked (f n) k) stay d p o').late
  one_slot n p stay o None e l fr hr = record {
    law = λ x h. absurd (cc);
    onward = λ _. closed_of n o l (sym e);
    expires = λ t. absurd (cc);
  }
  one_slot n p stay o (Some j) e l fr hr =
      let m = mid_of n o j l fr (sym e) in
      elim (does (is_picked (f n) k) stay d p j timed) [
        | inl b ↦ record {
          law = λ x h. let q : j.age + 1 ≡ x = same_some (j.age + 1) x (sym (hr ∙ b.e_response) ∙ h) in rw (sym q) (answered n j _ _ _ m b);
          onward = λ _. rw b.e_job (ended_closed n (j.age + 1) (hr ∙ b.e_response));
          expires = λ t. elim (both_ways _ b.e_timely t) [ ];
        }
        | inr b ↦ record {
          law = λ x h. let q : None ≡ Some x = sym (hr ∙ b.s_response) ∙ h in absurd (cc);
          onward = λ t. rw b.s_job (stayed n j _ _ _ m b hr t);
          expires = λ t. expired n j _ _ _ m b hr t;
        }
      ]
    where
      same_some : (a b : ℕ) → Some a ≡ Some b → a ≡ b
      same_some a b h = cc
