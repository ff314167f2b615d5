-- A whole order told by the positions of its numbers. Assumes nothing.
use Rattle.std.specs.Prelude.{◌≡◌, ℕ, ◌<◌, ◌≤◌, nat_eq, refl}
use Rattle.std.proofs.Common.{sym, ap, ◌∙◌, ⊎_elim, arith}
use Rattle.std.proofs.lemmas.Bool.{cases_lt, eq-eqb, ne_eqb, eqb-true, eqb-false}
use Rattle.lattice.proofs.First.{first_is, first_least}
use Rattle.gates.specs.Orders.{position, Whole}
use Rattle.gates.specs.Pigeon.{Into, Apart, onto}

-- each number stands once: what stands at p has the position p, and every number below n has a position
pub record Ranked (n : ℕ) (order : ℕ → ℕ) : Type 0 where
  pub within : Into n n order
  pub once : (p : ℕ) → p < n → position n order (order p) ≡ p
  pub every : Into n n (position n order)

module _ {n : ℕ} {order : ℕ → ℕ} where
  -- what stands at the position of x is x, so two numbers at one position are the same
  pub stands : Ranked n order → (x : ℕ) → x < n → order (position n order x) ≡ x
  stands r x l = eqb-true (order (position n order x)) x ((first_least (λ p. nat_eq (order p) x) 0 n (omega arith)).passes (r.every x l))

  pub same : Ranked n order → (x y : ℕ) → x < n → y < n → position n order x ≡ position n order y → x ≡ y
  same r x y lx ly e = sym (stands r x lx) ∙ ap order e ∙ stands r y ly

  pub ranked_from : Into n n order → Apart n order → Ranked n order
  ranked_from into apart = record { within = into; once = once; every = every }
    where
      once : (p : ℕ) → p < n → position n order (order p) ≡ p
      once p l = first_is (λ k. nat_eq (order k) (order p)) 0 n p (record {
        low = omega arith;
        high = omega arith;
        passes = λ _. eq-eqb (order p) (order p) refl;
        before = λ k _ lk. ne_eqb (order k) (order p) (λ e. let one : k ≡ p = apart k p (omega arith) l e in omega arith);
      })

      every : Into n n (position n order)
      every x lx =
          let none = first_least (λ p. nat_eq (order p) x) 0 n (omega arith) in
          ⊎_elim (λ l. l)
          (λ (past : n ≤ position n order x). absurd (onto n order into apart x lx (λ k l. eqb-false (order k) x (none.before k (omega arith) (omega arith)))))
          (cases_lt (position n order x) n)

  pub ranked_whole : Ranked n order → Whole n order
  ranked_whole r = record {
    within = r.within;
    distinct = λ j k lj lk e. sym (r.once j lj) ∙ ap (position n order) e ∙ r.once k lk;
    every = λ x l. (position n order x, r.every x l, stands r x l);
  }
