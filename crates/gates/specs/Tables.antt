-- What the tables of orders hold: each row is whole, and the rows are all that counts. Assumes nothing.
use Rattle.std.specs.List.{All}
use Rattle.std.proofs.Common.{◌≡◌, ℕ, ◌<◌, ◌≤◌, List, [], ◌∷◌, length, get_or, sym, ◌∙◌, subst, arith}
use mathlib.Core.HLevel.{is_prop→PathP}
use denote.Struct.Props.{props}
use Rattle.std.proofs.lemmas.List.{length-map}
use Rattle.std.proofs.lemmas.List.Elements.{All-get_or, All-map}
use Rattle.gates.specs.declared.gates.Gates.{Gates}
use Rattle.gates.specs.declared.order.Order.{Order}
use Rattle.gates.specs.Orders.{most, number_at}
use Rattle.gates.specs.Gates.{rows_of}
use Rattle.gates.specs.Positions.{Ranked}

pub rows_ranked : (n : ℕ) (table : List Order) → All (λ (o : Order). o.count ≡ n) table → (i : ℕ) → i < length table → Ranked n (number_at (rows_of table) i)
rows_ranked n table even i lt =
    All-get_or (λ r. Ranked n (λ p. get_or r p 0)) (rows_of table) i [] (omega (arith, length-map table (λ (o : Order). o.numbers)))
    (All-map (λ r. Ranked n (λ p. get_or r p 0)) (λ (o : Order). o.numbers) table
    (λ k d l. subst (λ c. Ranked c (λ p. get_or (get_or table k d).numbers p 0)) (even k d l) (get_or table k d).whole))

pub van_ranked : (m : Gates) (i : ℕ) → i < m.count → Ranked m.count (number_at (rows_of m.vans) i)
van_ranked m i lt = rows_ranked m.count m.vans m.even.0 i (omega (arith, m.few, m.tall.0))

pub gate_ranked : (m : Gates) (g : ℕ) → g < m.count → Ranked m.count (number_at (rows_of m.gates) g)
gate_ranked m g lt = rows_ranked m.count m.gates m.even.1 g (omega (arith, m.few, m.tall.1))

-- a table that is not empty has one count
count_once : (n m : ℕ) (table : List Order) → All (λ (o : Order). o.count ≡ n) table → All (λ (o : Order). o.count ≡ m) table → 0 < length table → n ≡ m
count_once n m [] e f some = omega (arith, some)
count_once n m (o ∷ table) e f some = sym (e 0 o some) ∙ f 0 o some

record Facts (n : ℕ) (vans gates : List Order) : Type 0 where
  few : n ≤ most
  tall : (length vans ≡ most) × (length gates ≡ most)
  even : All (λ (o : Order). o.count ≡ n) vans × All (λ (o : Order). o.count ≡ n) gates

facts_once : (n : ℕ) (vans gates : List Order) → IsProp (Facts n vans gates)
facts_once n vans gates x y =
    λ i. record {
      few = (let p : IsProp (n ≤ most) = hlevel props in p) x.few y.few i;
      tall = (let p : IsProp ((length vans ≡ most) × (length gates ≡ most)) = hlevel props in p) x.tall y.tall i;
      even = (let p : IsProp (All (λ (o : Order). o.count ≡ n) vans × All (λ (o : Order). o.count ≡ n) gates) = hlevel props in p) x.even y.even i;
    }

abbrev facts : (m : Gates) → Facts m.count m.vans m.gates
facts m = record { few = m.few; tall = m.tall; even = m.even }

-- two pairs of tables with the same orders are one
pub same_tables : (m m' : Gates) → m.vans ≡ m'.vans → m.gates ≡ m'.gates → m ≡ m'
same_tables m m' e f =
    let c : m.count ≡ m'.count =
    count_once m.count m'.count m'.vans (subst (All (λ (o : Order). o.count ≡ m.count)) e m.even.0) m'.even.0 (omega (arith, m'.tall.0)) in
    λ i.
    let k : Facts (c i) (e i) (f i) =
    is_prop→PathP (λ i. Facts (c i) (e i) (f i)) (λ i. facts_once (c i) (e i) (f i)) (facts m) (facts m') i in
    record {
      count = c i;
      vans = e i;
      gates = f i;
      few = k.few;
      tall = k.tall;
      even = k.even;
    }
