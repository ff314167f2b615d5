-- The gates condition keeps the laws of every condition, and its own. Assumes nothing.
use Rattle.std.specs.Prelude.{◌≡◌, ℕ, ◌<◌, ◌≤◌}
use Rattle.std.proofs.Common.{sym, subst, ◌∙◌, ⊎_elim, arith}
use Rattle.std.proofs.lemmas.Bool.{cases_lt, cases_eq}
use Rattle.lattice.specs.Laws.{Lawful}
use Rattle.lattice.specs.Order.{at, AtMost}
use Rattle.lattice.specs.declared.vector.Vector.{Vector}
use Rattle.lattice.specs.declared.condition.Reply.{Reply}
use Rattle.lattice.specs.declared.condition.Reply.TheVariants.{Holds, Lift, Never}
use Rattle.gates.specs.declared.gates.Gates.{Gates}
use Rattle.gates.specs.Stable.{Sides, Stable}
use Rattle.gates.specs.Rivals.{Contested, Says, never, lift, holds}
use Rattle.gates.specs.Reply.{reply_to}
use Rattle.gates.specs.Gates.{sides, GatesLaws}
use Rattle.gates.specs.Positions.{ranked_whole}
use Rattle.gates.specs.Tables.{van_ranked, gate_ranked}
use Rattle.gates.specs.Rivalry.{Further}
use Rattle.gates.specs.Replies.{says, says_is}
use Rattle.gates.specs.Stability.{stable_settled, settled_stable, contested_passed}
use Rattle.gates.specs.Agreement.{reply_same, settled_blank}

wrong : ◌≡◌ {A = ℕ} 0 1 → ⊥
wrong e = omega arith

-- van p is to go to position q: it has a rival at each before that
record Lifted (s : Sides) (h : ℕ → ℕ) (p q : ℕ) : Type 0 where
  in_range : p < s.n
  rises : h p < q
  rivals : (k : ℕ) → h p ≤ k → k < q → Contested s h p k

lifted : (s : Sides) (h : ℕ → ℕ) (r : Reply) (p q : ℕ) → Says s h r → r ≡ Lift (p, q) → Lifted s h p q
lifted s h _ p q (never i l g) e = absurd (wrong cc)
lifted s h _ p q (lift placed i r l quiet here nx) e =
    let same : ◌≡◌ {A = ℕ × ℕ} (i, r) (p, q) = cc in
    subst (λ (t : ℕ × ℕ). Lifted s h t.0 t.1) same (record {
      in_range = l;
      rises = nx.later;
      rivals = λ k lo hi. ⊎_elim (λ (e : k ≡ h i). subst (Contested s h i) (sym e) here) (λ (ne : k ≡ h i → ⊥). nx.passed k (omega arith) hi) (cases_eq k (h i));
    })
lifted s h _ p q (holds st) e = absurd (wrong cc)

module _ (m : Gates) where
  then : (h : ℕ → ℕ) (r : Reply) → Says (sides m) h r → r ≡ Holds → Stable (sides m) h
  then h _ (never i l g) e = absurd (wrong cc)
  then h _ (lift placed i r l quiet here nx) e = absurd (wrong cc)
  then h _ (holds st) e = settled_stable (sides m) (van_ranked m) (gate_ranked m) h st

  only : (h : ℕ → ℕ) → Stable (sides m) h → reply_to (sides m) h ≡ Holds
  only h st = says_is (sides m) h Holds (holds (stable_settled (sides m) (van_ranked m) (gate_ranked m) h st))

  nowhere : (h h' : ℕ → ℕ) → Further (sides m) h h' → (r : Reply) → Says (sides m) h r → r ≡ Never → Stable (sides m) h' → ⊥
  nowhere h h' up _ (never i l g) e st = omega (arith, st.placed i l, up i l)
  nowhere h h' up _ (lift placed i r l quiet here nx) e st = wrong cc
  nowhere h h' up _ (holds st') e st = wrong cc

  further : (v w : Vector) → AtMost v w → Further (sides m) (at v) (at w)
  further v w below j lt = below j (omega (arith, m.few))

  to : (v : Vector) (p q : ℕ) → reply_to (sides m) (at v) ≡ Lift (p, q) → Lifted (sides m) (at v) p q
  to v p q e = lifted (sides m) (at v) (reply_to (sides m) (at v)) p q (says (sides m) (at v)) e

  pub lawful : Lawful (λ v. Stable (sides m) (at v)) (λ v. reply_to (sides m) (at v))
  lawful = record {
    holds_then = λ v e. then (at v) (reply_to (sides m) (at v)) (says (sides m) (at v)) e;
    holds_only = λ v st. only (at v) st;
    place = λ v p q e. omega (arith, (to v p q e).in_range, m.few);
    rises = λ v p q e. (to v p q e).rises;
    needed = λ v p q e w below st.
        let up = further v w below in
        let t = to v p q e in
        let l = t.in_range in
        ⊎_elim
        (λ (lt : at w p < q). absurd (contested_passed (sides m) (van_ranked m) (gate_ranked m) (at v) (at w) up st p l (t.rivals (at w p) (up p l) lt)))
        (λ le. le)
        (cases_lt (at w p) q);
    never = λ v e w below st. nowhere (at v) (at w) (further v w below) (reply_to (sides m) (at v)) (says (sides m) (at v)) e st;
  }

  pub laws : GatesLaws m
  laws = record {
    vans = λ i l. ranked_whole (van_ranked m i l);
    gates = λ g l. ranked_whole (gate_ranked m g l);
    says = λ v. says (sides m) (at v);
    only = λ v r s. says_is (sides m) (at v) r s;
    settled = λ v. stable_settled (sides m) (van_ranked m) (gate_ranked m) (at v);
    stable = λ v. settled_stable (sides m) (van_ranked m) (gate_ranked m) (at v);
    same_reply = λ v w agree. reply_same (sides m) (at v) (at w) agree;
    same_stable = λ v w agree st. lawful.holds_then w (sym (reply_same (sides m) (at v) (at w) agree) ∙ lawful.holds_only v st);
    blank = λ e v. let st = settled_blank (sides m) (at v) e in (settled_stable (sides m) (van_ranked m) (gate_ranked m) (at v) st, says_is (sides m) (at v) Holds (holds st));
  }
