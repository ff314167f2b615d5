-- What `find_map` answers, by the places of the list that its iterator reads. Assumes nothing.
use Rattle.std.proofs.Common.{◌≡◌, ℕ, ◌+◌, ◌<◌, List, length, get_or, None, Some, Option, MatchOption, Bor, subst, arith}
use Rattle.std.specs.Bool.{IsTrue}
use Rattle.std.specs.Fn.{Mut, Called}
use Rattle.std.specs.Option.{option_map, IfSome, IsSomeAnd}
use Rattle.std.specs.Iterator.Runs.{Run, ItemsMapTo, CallKeepsClosure, AllItemsGive, IsFirstToGive}

given : {A : Type 0} {P : Bor A → Type 0} (Q : A → Type 0) (o : Option (Bor A)) (y : A) → option_map (λ z. z.now) o ≡ Some y → IfSome o P → ((x : Bor A) → P x → Q x.now) → Q y
given Q None y e h so = cc
given Q (Some x) y e h so = let is : x.now ≡ y = cc in subst Q is (so x h)

if_some : {A : Type 0} (P : A → Type 0) (o : Option A) → IsSomeAnd o P → IfSome o P
if_some P None h = absurd h
if_some P (Some x) h = h

pub mapped : {S A F B : Type 0} {steps : S → Option (Bor A) → S → Type 0} (g : Mut F (Bor A × Unit {0}) (Option B)) (f : F) (p : Run steps) (xs : List A) (d : A) (Yes : A → B → Type 0) (No : A → Type 0) (r : Option B)
    → ItemsMapTo p (λ y. y.now) xs → MatchOption r (IsTrue p.whole × AllItemsGive p g f None) (λ y. (i : ℕ) × (i < p.len) × (p.len ≡ i + 1) × IsFirstToGive p g f (Some y) None i)
    → CallKeepsClosure g f → ((x : Bor A) (y : B) → Called g f (x, tt) (Some y) f → Yes x.now y) → ((x : Bor A) → Called g f (x, tt) None f → No x.now)
    → MatchOption r ((k : ℕ) → k < length xs → No (get_or xs k d)) (λ y. (i : ℕ) × (i < length xs) × Yes (get_or xs i d) y × ((k : ℕ) → k < i → No (get_or xs k d)))
mapped g f p xs d Yes No None items m keeps hit miss = λ k lt. given No (p.at k) _ (items.2 k d (omega (arith, items.1 m.0))) (m.1 keeps k) miss
mapped g f p xs d Yes No (Some y) items m keeps hit miss =
    let here = m.3 keeps in (
      m.0,
      omega (arith, m.1, items.0),
      given (λ x. Yes x y) (p.at m.0) _ (items.2 m.0 d m.1) (if_some _ (p.at m.0) here.0) (λ x. hit x y),
      λ k lt. given No (p.at k) _ (items.2 k d (omega (arith, m.1))) (if_some _ (p.at k) (here.1 k lt)) miss,
    )
