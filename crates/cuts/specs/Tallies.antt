-- What is counted of a process's events as its height rises, and the least height that reaches a count. Assumes nothing.
use Rattle.std.specs.Prelude.{◌≡◌, ℕ, zero, suc, ◌+◌, ◌-◌, ◌<◌, ◌≤◌, Bool, true, false, cond, leb, List, Some, None, Option, MatchOption, nat_le}
use Rattle.std.proofs.Common.{ap, ◌∙◌, ⊎_elim, arith, add-one}
use Rattle.std.proofs.lemmas.Bool.{cases_lt, cond-true, cond-false, leb-true, leb-false, le-leb, lt-leb}
use Rattle.lattice.specs.First.{walk, first}
use Rattle.lattice.specs.declared.condition.Reply.TheVariants.{Lift, Never}
use Rattle.lattice.proofs.First.{first_least, first_is}
use Rattle.trace.specs.declared.event.Event.{Event}
use Rattle.trace.specs.declared.event.Action.{Action}
use Rattle.trace.specs.Events.{does, nth, total}
use Rattle.cuts.specs.Channels.{tally, Reaches, lifted_to}
use Rattle.cuts.specs.Sides.{lift_or}

-- one event more, which does what is asked or not
pub tally_on : (es : List Event) (test : Action → Bool) (i h : ℕ) → test (does es (nth es i (h + 1))) ≡ true → tally es test i (h + 1) ≡ tally es test i h + 1
tally_on es test i h = rw (add-one h) (λ e. ap (λ x. tally es test i h + x) (cond-true (test (does es (nth es i (suc h)))) 1 0 e))

pub tally_off : (es : List Event) (test : Action → Bool) (i h : ℕ) → test (does es (nth es i (h + 1))) ≡ false → tally es test i (h + 1) ≡ tally es test i h
tally_off es test i h =
    rw (add-one h) (λ e. let r = ap (λ x. tally es test i h + x) (cond-false (test (does es (nth es i (suc h)))) 1 0 e) in omega arith)

cond_le : (b : Bool) → cond b 1 0 ≤ 1
cond_le true = omega arith
cond_le false = omega arith

pub tally_le : (es : List Event) (test : Action → Bool) (i h : ℕ) → tally es test i h ≤ h
tally_le es test i zero = omega arith
tally_le es test i (suc h) = let r = tally_le es test i h in omega (arith, cond_le (test (does es (nth es i (suc h)))))

-- higher, no fewer
pub tally_mono : (es : List Event) (test : Action → Bool) (i h g : ℕ) → h ≤ g → tally es test i h ≤ tally es test i g
tally_mono es test i h zero le = let e : h ≡ 0 = omega arith in rw e (omega arith)
tally_mono es test i h (suc g) le =
    ⊎_elim
    (λ (lt : h < suc g). let r = tally_mono es test i h g (omega arith) in omega arith)
    (λ (ge : suc g ≤ h). let e : h ≡ suc g = omega arith in let r = ap (tally es test i) e in omega arith)
    (cases_lt h (suc g))

-- what is counted at a greater height is no less
abbrev pub Rising : (ℕ → ℕ) → Type 0
Rising counted = (h g : ℕ) → h ≤ g → counted h ≤ counted g

-- every height of process i falls short of the count
abbrev pub Short : List Event → (ℕ → ℕ) → ℕ → ℕ → Type 0
Short es counted i count = (k : ℕ) → k ≤ total es i → counted k < count

module _ (es : List Event) (counted : ℕ → ℕ) (up : Rising counted) (i count : ℕ) where
  -- a height that falls short is below one that reaches
  pub reaches_above : (from q : ℕ) → counted from < count → Reaches es counted i count q → from < q
  reaches_above from q low r =
      ⊎_elim (λ (lt : from < q). lt) (λ (ge : q ≤ from). absurd (omega (arith, up q from ge, r.enough))) (cases_lt from q)

  -- every height that reaches is at or above the least that does
  pub reaches_least : (q k : ℕ) → Reaches es counted i count q → count ≤ counted k → q ≤ k
  reaches_least q k r enough = ⊎_elim (λ (lt : k < q). absurd (omega (arith, r.least k lt))) (λ (ge : q ≤ k). ge) (cases_lt k q)

  -- a walk upward stops where the count is reached: one step lower it was not
  pub stops_at : (h : ℕ) → h < total es i → counted h < count → counted (h + 1) ≡ count → Reaches es counted i count (h + 1)
  stops_at h there low is =
      record { there = omega arith; enough = omega arith; least = λ k lt. omega (arith, up k h (omega arith)) }

  -- or it ends at the total without
  pub ends_short : (h : ℕ) → total es i ≤ h → counted h < count → Short es counted i count
  ends_short h past low k le = omega (arith, up k h (omega arith))

  -- one of the two it is
  pub reach_or_short : (o : Option ℕ) × MatchOption o (Short es counted i count) (λ q. Reaches es counted i count q)
  reach_or_short =
      let test : ℕ → Bool = λ k. leb count (counted k) in
      let q = first test 0 (total es i + 1) in
      let l = first_least test 0 (total es i + 1) (omega arith) in
      ⊎_elim
      (λ (lt : q < total es i + 1).
      (Some q, record { there = omega arith; enough = leb-true count (counted q) (l.passes lt); least = λ k h. leb-false count (counted k) (l.before k (omega arith) h) }))
      (λ (out : total es i + 1 ≤ q). (None, λ k le. leb-false count (counted k) (l.before k (omega arith) (omega arith))))
      (cases_lt q (total es i + 1))

  -- the lift, where there is such a height and where there is none
  pub lift_reaches : (from q : ℕ) → counted from < count → Reaches es counted i count q → lifted_to es counted i from count ≡ Lift (i, q)
  lift_reaches from q low r =
      let above = reaches_above from q low r in
      let is : first (λ k. leb count (counted k)) from (total es i + 1) ≡ q =
      first_is (λ k. leb count (counted k)) from (total es i + 1) q
      (record {
        low = omega arith;
        high = omega (arith, r.there);
        passes = λ _. le-leb count (counted q) r.enough;
        before = λ k _ lt. lt-leb count (counted k) (r.least k lt);
      }) in
      ap (λ (x : ℕ). cond (nat_le x (total es i)) (Lift (i, x)) Never) is ∙ cond-true (nat_le q (total es i)) (Lift (i, q)) Never (le-leb q (total es i) r.there)

  pub lift_short : (from : ℕ) → Short es counted i count → lifted_to es counted i from count ≡ Never
  lift_short from short =
      let test : ℕ → Bool = λ k. leb count (counted k) in
      let q = first test from (total es i + 1) in
      let past : total es i < q =
      ⊎_elim
      (λ (lt : total es i < from).
      let none : total es i + 1 - from ≡ 0 = omega arith in
      let is : q ≡ from = ap (λ (n : ℕ). walk test n from) none in
      omega arith)
      (λ (ge : from ≤ total es i).
      let l = first_least test from (total es i + 1) (omega arith) in
      ⊎_elim
      (λ (lt : q < total es i + 1). absurd (omega (arith, short q (omega arith), leb-true count (counted q) (l.passes lt))))
      (λ (out : total es i + 1 ≤ q). omega arith)
      (cases_lt q (total es i + 1)))
      (cases_lt (total es i) from) in
      cond-false (nat_le q (total es i)) (Lift (i, q)) Never (lt-leb q (total es i) past)

  -- as a search answers
  pub lift_is : (from : ℕ) (o : Option ℕ) → counted from < count → MatchOption o (Short es counted i count) (λ q. Reaches es counted i count q) → lifted_to es counted i from count ≡ lift_or i o
  lift_is from None low short = lift_short from short
  lift_is from (Some q) low r = lift_reaches from q low r
