-- Numbers of events in their processes. Assumes nothing.
use Rattle.std.proofs.Common.{◌≡◌, ℕ, zero, suc, ◌+◌, ◌<◌, ◌≤◌, eqb, List, length, refl, ap, ◌∙◌, inl, inr, ⊎_elim, arith}
use Rattle.std.proofs.lemmas.Bool.{cases_eq, cases_lt, eq-eqb, ne_eqb, cond-true, cond-false}
use Rattle.trace.specs.declared.event.Event.{Event}
use Rattle.trace.specs.Events.{by, count, number, total}

-- one more event, of the process or not
pub count_here : (es : List Event) (i k : ℕ) → by es k ≡ i → count es i (suc k) ≡ count es i k + 1
count_here es i k e = ap (λ x. count es i k + x) (cond-true (eqb (by es k) i) 1 0 (eq-eqb _ _ e))

pub count_other : (es : List Event) (i k : ℕ) → (by es k ≡ i → ⊥) → count es i (suc k) ≡ count es i k
count_other es i k ne = let e = ap (λ x. count es i k + x) (cond-false (eqb (by es k) i) 1 0 (ne_eqb _ _ ne)) in omega arith

pub count_mono : (es : List Event) (i k m : ℕ) → k ≤ m → count es i k ≤ count es i m
count_mono es i k zero h = let e : k ≡ 0 = omega arith in rw e (omega arith)
count_mono es i k (suc m) h =
    ⊎_elim
    (λ lt. let r = count_mono es i k m (omega arith) in omega arith)
    (λ ge. let e : k ≡ suc m = omega arith in let r = ap (count es i) e in omega arith)
    (cases_lt k (suc m))

pub count_le : (es : List Event) (i k : ℕ) → count es i k ≤ k
count_le es i zero = omega arith
count_le es i (suc k) =
    let r = count_le es i k in
    ⊎_elim (λ e. omega (arith, count_here es i k e)) (λ ne. omega (arith, count_other es i k ne)) (cases_eq (by es k) i)

pub number_is : (es : List Event) (e i : ℕ) → by es e ≡ i → number es e ≡ count es i e + 1
number_is es e i h = ap (λ j. count es j (suc e)) h ∙ count_here es i e h

-- in one process, numbers go as file order does
pub number_le : (es : List Event) (a b : ℕ) → by es a ≡ by es b → a ≤ b → number es a ≤ number es b
number_le es a b e h = let m = count_mono es (by es b) a b h in omega (arith, number_is es a (by es b) e, number_is es b (by es b) refl)

pub number_from_le : (es : List Event) (a b : ℕ) → by es a ≡ by es b → number es a ≤ number es b → a ≤ b
number_from_le es a b e h =
    ⊎_elim
    (λ lt. absurd (let m = count_mono es (by es b) (suc b) a lt in omega (arith, number_is es a (by es b) e)))
    (λ ge. ge)
    (cases_lt b a)

pub number_total : (es : List Event) (e : ℕ) → e < length es → number es e ≤ total es (by es e)
number_total es e h = count_mono es (by es e) (suc e) (length es) h

-- a process with h events has an event of number h
pub record Numbered (es : List Event) (k i h : ℕ) : Type 0 where
  pub at : ℕ
  pub within : at < k
  pub of : by es at ≡ i
  pub is : number es at ≡ h

pub numbered : (es : List Event) (k i h : ℕ) → 0 < h → h ≤ count es i k → Numbered es k i h
numbered es zero i h p q = absurd (omega arith)
numbered es (suc k) i h p q =
    ⊎_elim
    (λ below. let r = numbered es k i h p below in record { at = r.at; within = omega arith; of = r.of; is = r.is })
    (λ above.
    ⊎_elim
    (λ e. record { at = k; within = omega arith; of = e; is = omega (arith, number_is es k i e, count_here es i k e) })
    (λ ne. absurd (omega (arith, count_other es i k ne)))
    (cases_eq (by es k) i))
    (⊎_elim (λ lt. inr lt) (λ ge. inl ge) (cases_lt (count es i k) h))
