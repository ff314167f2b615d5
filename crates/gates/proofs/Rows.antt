-- A row and its ranks, as they are filled in and when they are full; and the rows of a table. Assumes nothing.
use Rattle.std.specs.List.{All}
use Rattle.std.proofs.Common.{◌≡◌, ℕ, ◌+◌, ◌-◌, ◌<◌, List, [], length, get_or, set, take, drop, sym, refl, ap, ◌∙◌, subst, arith}
use Rattle.std.proofs.lemmas.List.{get_or-map, get_or-set_same, get_or-set_other, get_or-take, get_or-drop, length-map, length-take-le, length-drop, map-set}
use Rattle.gates.specs.declared.order.Order.{Order}
use Rattle.gates.specs.Orders.{most, number_at, position, OrderOf, Put}
use Rattle.gates.specs.Gates.{rows_of}
use Rattle.gates.specs.Positions.{Ranked, ranked_from, stands}

-- the first p numbers of the order are copied to the row, and each has its position among the ranks, where others have n
pub record Filled (n : ℕ) (order : ℕ → ℕ) (p : ℕ) (row ranks : List ℕ) : Type 0 where
  pub wide : length row ≡ most
  pub long : length ranks ≡ most
  pub copied : (k : ℕ) → k < p → get_or row k 0 ≡ order k
  pub small : (k : ℕ) → k < p → order k < n
  pub marked : (k : ℕ) → k < p → get_or ranks (order k) 0 ≡ k
  pub marks : (x : ℕ) → x < n → get_or ranks x 0 < n → (get_or ranks x 0 < p) × (order (get_or ranks x 0) ≡ x)

-- the row may stand for the order
pub filled_row : (n : ℕ) (order : ℕ → ℕ) (p : ℕ) (row ranks : List ℕ) → Filled n order p row ranks → Filled n (λ k. get_or row k 0) p row ranks
filled_row n order p row ranks f = record {
  wide = f.wide;
  long = f.long;
  copied = λ k l. refl;
  small = λ k l. omega (arith, f.copied k l, f.small k l);
  marked = λ k l. ap (λ x. get_or ranks x 0) (f.copied k l) ∙ f.marked k l;
  marks = λ x lx old. let before = f.marks x lx old in (before.0, f.copied (get_or ranks x 0) before.0 ∙ before.1);
}

pub filled_ranked : (n : ℕ) (order : ℕ → ℕ) (row ranks : List ℕ) → Filled n order n row ranks → Ranked n order
filled_ranked n order row ranks f = ranked_from f.small (λ j k lj lk e. sym (f.marked j lj) ∙ ap (λ x. get_or ranks x 0) e ∙ f.marked k lk)

-- a whole row with its ranks, which are the positions
pub record Sound (n : ℕ) (row ranks : List ℕ) : Type 0 where
  pub whole : Ranked n (λ p. get_or row p 0)
  pub ranked : (x : ℕ) → x < n → get_or ranks x 0 ≡ position n (λ p. get_or row p 0) x

pub sound : (n : ℕ) (order : ℕ → ℕ) (row ranks : List ℕ) → Filled n order n row ranks → Sound n row ranks
sound n order row ranks f =
    let own = filled_row n order n row ranks f in
    let at_row : ℕ → ℕ = λ p. get_or row p 0 in
    let whole : Ranked n at_row = filled_ranked n at_row row ranks own in
    record { whole = whole; ranked = λ x l. ap (λ y. get_or ranks y 0) (sym (stands whole x l)) ∙ own.marked (position n at_row x) (whole.every x l) }

-- 0, 1, 2 and so on, which are their own ranks
pub ascending_sound : (n : ℕ) (row : List ℕ) → ((p : ℕ) → p < n → get_or row p 0 ≡ p) → Sound n row row
ascending_sound n row each =
    let order : ℕ → ℕ = λ p. get_or row p 0 in
    let whole : Ranked n order = ranked_from (λ k l. omega (arith, each k l)) (λ j k lj lk e. omega (arith, each j lj, each k lk)) in
    record { whole = whole; ranked = λ x l. each x l ∙ sym (subst (λ y. position n order y ≡ x) (each x l) (whole.once x l)) }

-- the row of an order that stands in a table
pub row_at : (table : List Order) (i : ℕ) (o : Order) → i < length table → get_or (rows_of table) i [] ≡ (get_or table i o).numbers
row_at table i o lt = get_or-map (λ (x : Order). x.numbers) table i o [] lt

-- so the rank of a number in that order is its position in that row
pub rank_at : (n : ℕ) (table : List Order) (i : ℕ) (o : Order) (x r : ℕ) → All (λ (y : Order). y.count ≡ n) table → i < length table →
    r ≡ position (get_or table i o).count (λ p. get_or (get_or table i o).numbers p 0) x → r ≡ position n (number_at (rows_of table) i) x
rank_at n table i o x r even lt at =
    at ∙ ap (λ k. position k (λ p. get_or (get_or table i o).numbers p 0) x) (even i o lt)
    ∙ ap (λ row. position n (λ p. get_or row p 0) x) (sym (row_at table i o lt))

-- what is left of that order from a position on
module _ (n : ℕ) (table : List Order) (i : ℕ) (o : Order) (even : All (λ (y : Order). y.count ≡ n) table) (lt : i < length table) (numbers : List ℕ)
    (is : numbers ≡ take (get_or table i o).count (get_or table i o).numbers) (from : ℕ) where
  abbrev left : List ℕ
  left = take (length numbers - from) (drop from numbers)

  long : length numbers ≡ n
  long =
      let x = get_or table i o in
      ap length is ∙ length-take-le x.count x.numbers (omega (arith, x.few, x.wide.0)) ∙ even i o lt

  pub left_long : length left ≡ n - from
  left_long = length-take-le (length numbers - from) (drop from numbers) (omega (arith, length-drop from numbers)) ∙ ap (λ (k : ℕ). k - from) long

  pub left_at : (past : ℕ) → past < length left → get_or left past 0 ≡ number_at (rows_of table) i (from + past)
  left_at past l =
      let x = get_or table i o in
      get_or-take (length numbers - from) (drop from numbers) past 0 (omega (arith, left_long, long)) ∙ get_or-drop from numbers past 0
      ∙ ap (λ xs. get_or xs (from + past) 0) is ∙ get_or-take x.count x.numbers (from + past) 0 (omega (arith, left_long, even i o lt))
      ∙ ap (λ row. get_or row (from + past) 0) (sym (row_at table i o lt))

-- an order that is put in a table takes one row, and no other
pub put_row : (n : ℕ) (table : List Order) (i : ℕ) (o : Order) (list : List ℕ) → i < length table → i < n
    → OrderOf n list × ((p : ℕ) → p < n → get_or o.numbers p 0 ≡ get_or list p 0) × (o.count ≡ n) → Put n i list (number_at (rows_of table)) (number_at (rows_of (set table i o)))
put_row n table i o list lt inside taken =
    let put : rows_of (set table i o) ≡ set (rows_of table) i o.numbers = map-set (λ (x : Order). x.numbers) table i o in
    record {
      row = inside;
      order = taken.0;
      here = λ p l. ap (λ t. number_at t i p) put ∙ ap (λ r. get_or r p 0) (get_or-set_same (rows_of table) i o.numbers [] (omega (arith, length-map table (λ (x : Order). x.numbers)))) ∙ taken.1 p l;
      others = λ k p ne. ap (λ t. number_at t k p) put ∙ ap (λ r. get_or r p 0) (get_or-set_other (rows_of table) i k o.numbers [] ne);
    }
