-- A row that is read: an order, or none; and the rows of a side one after another. Assumes nothing.
use Rattle.std.proofs.Common.{◌≡◌, ℕ, ◌+◌, ◌-◌, ◌<◌, ◌≤◌, List, [], ◌∷◌, ◌++◌, length, get_or, Ok, Err, Result, sym, ap, ◌∙◌, subst, subst₂, ⊎_elim, append_assoc, arith, MatchResult}
use Rattle.std.specs.List.{flat_map, AllByRecursion}
use Rattle.std.proofs.lemmas.List.{length_push, get_or_push, get_or_append_left, flat_map_more}
use Rattle.std.proofs.ByRecursion.{All-push}
use Rattle.std.proofs.lemmas.Bool.{cases_lt}
use Rattle.std.specs.Result.{IsErrAnd}
use Rattle.refusal.specs.declared.Layer.TheVariants.{Record}
use Rattle.refusal.specs.declared.Refusal.{Refusal}
use Rattle.gates.specs.declared.fault.OrderFault.{OrderFault}
use Rattle.gates.specs.declared.gates.Gates.{Gates}
use Rattle.gates.specs.Orders.{OrderOf, number_at, Unfit, no_row, no_order}
use Rattle.gates.specs.declared.side.Side.{Side}
use Rattle.gates.specs.declared.side.Side.TheVariants as side
use Rattle.gates.specs.Gates.{sides, rows_of, table_of, other_of, RowPut}
use Rattle.wire.specs.declared.reader.Reader.{Reader}
use Rattle.refusal.specs.declared.Rule.TheVariants as rule
use Rattle.refusal.specs.Table.{row}
use Rattle.wire.specs.Parts.{after, next}
use Rattle.wire.specs.declared.record.RecordFault.{RecordFault}
use Rattle.wire.specs.declared.record.RecordFault.TheVariants.{Row}
use Rattle.wire.specs.Records.{RowShort, record_row}
use Rattle.wire.specs.Records.RowShort.{missing as short}
use Rattle.jobfile.specs.Forms.{row_bytes, RowsOk}
use Rattle.jobfile.specs.Table.{RowBroken, RowsBroken, GatesBroken}
use Rattle.jobfile.specs.Table.RowBroken.{missing, no_order as disorder}
use Rattle.jobfile.specs.Fields.{Took, Stand, RowRead, RowsRead, GatesRead}
use Rattle.jobfile.proofs.Taking.{err_exit}

-- the row's bytes are not there
pub row_short : (total n m : ℕ) (s : List ℕ) (r : Refusal) → m ≡ n → RowShort total m s r → RowBroken n total s r
row_short total n m s _ same (short less) = missing (omega arith)

-- they are there
module _ (i n : ℕ) (before left : Reader) (g : Gates) (list : List ℕ) (same : n ≡ (sides g).n)
    (read : (length list ≡ n) × (before.rest.now ≡ list ++ left.rest.now) × (left.total ≡ before.total)) where
  -- and no order
  row_unfit : (e : OrderFault) (place : ℕ) → i < (sides g).n → place ≡ before.total - length before.rest.now → Unfit (sides g).n i list e →
      RowBroken (sides g).n before.total before.rest.now (row rule.Row place Record)
  row_unfit _ place inside at (no_row beyond) = absurd (omega arith)
  row_unfit _ place inside at (no_order _ none) = rw at (disorder list left.rest.now (read.0 ∙ same) read.1 none)

  -- what the table of a side takes, or refuses, and what comes of that
  pub row_ends : (h : Gates) (s : Side) (r : Result (Unit {0}) OrderFault) (q : Result (Unit {0}) RecordFault) (place : ℕ) → RowPut s i list g r h →
      MatchResult r (λ x. q ≡ Ok x) (λ _. IsErrAnd q (λ e. e ≡ Row place)) → i < (sides g).n → place ≡ before.total - length before.rest.now →
      MatchResult q (λ _. RowRead s i before left g h) (λ e. RowBroken (sides g).n before.total before.rest.now (record_row e))
  row_ends h s (Ok _) q place good is inside at = rw is (record {
    list = list;
    order = good.0.order;
    took = record { is = read.1; total = read.2 };
    here = good.0.here;
    others = good.0.others;
    count = good.1;
    other = good.2;
  })
  row_ends h s (Err e) q place bad is inside at = err_exit q _ _ is (row_unfit e place inside at bad.0)

-- the first i rows of a side were read, and stand in its table
pub record SomeRows (s : Side) (i : ℕ) (before left : Reader) (g h : Gates) : Type 0 where
  pub rows : List (List ℕ)
  pub many : length rows ≡ i
  pub ok : AllByRecursion (OrderOf (sides g).n) rows
  pub took : Took (flat_map row_bytes rows) before left
  pub stand : (k p : ℕ) → k < i → p < (sides g).n → number_at (rows_of (table_of s h)) k p ≡ number_at rows k p
  pub count : (sides h).n ≡ (sides g).n
  pub other : other_of s h ≡ other_of s g

module _ (s : Side) (i : ℕ) (before left : Reader) (g h : Gates) (so : SomeRows s i before left g h) where
  -- one row more
  module _ (end : Reader) (m : Gates) (one : RowRead s i left end h m) where
    both_took : before.rest.now ≡ flat_map row_bytes (so.rows ++ one.list ∷ []) ++ end.rest.now
    both_took =
        so.took.is ∙ ap (λ z. flat_map row_bytes so.rows ++ z) one.took.is ∙ sym (append_assoc (flat_map row_bytes so.rows) one.list end.rest.now)
        ∙ ap (λ z. z ++ end.rest.now) (flat_map_more row_bytes [] so.rows one.list)

    both_stand : (k p : ℕ) → k < i + 1 → p < (sides g).n → number_at (rows_of (table_of s m)) k p ≡ number_at (so.rows ++ one.list ∷ []) k p
    both_stand k p less inside =
        ⊎_elim
        (λ (below : k < i).
        let there : k < length so.rows = omega (arith, so.many) in
        one.others k p (omega arith) ∙ so.stand k p below inside ∙ sym (ap (λ z. get_or z p 0) (get_or_append_left so.rows (one.list ∷ []) [] k there)))
        (λ (above : i ≤ k).
        let last : k ≡ i = omega arith in
        let at : length so.rows ≡ k = omega (arith, so.many) in
        ap (λ z. number_at (rows_of (table_of s m)) z p) last ∙ one.here p (omega (arith, so.count)) ∙ sym (ap (λ z. get_or z p 0) (get_or_push so.rows one.list [] k at)))
        (cases_lt k i)

    pub rows_more : SomeRows s (i + 1) before end g m
    rows_more = record {
      rows = so.rows ++ one.list ∷ [];
      many = length_push so.rows one.list ∙ ap (λ (z : ℕ). z + 1) so.many;
      ok = All-push _ so.rows one.list so.ok (subst (λ z. OrderOf z one.list) so.count one.order);
      took = record { is = both_took; total = one.took.total ∙ so.took.total };
      stand = both_stand;
      count = one.count ∙ so.count;
      other = one.other ∙ so.other;
    }

  -- the next is broken
  pub rows_break : (r : Refusal) → i < (sides h).n → RowBroken (sides h).n left.total left.rest.now r → RowsBroken (sides g).n before.total before.rest.now r
  rows_break r less b =
      next so.rows left.rest.now (omega (arith, so.many, so.count)) so.ok so.took.is
      (subst₂ (λ n t. RowBroken n t left.rest.now r) so.count so.took.total b)

-- the rows of the vans were read
module _ (before left : Reader) (g h : Gates) (vans : RowsRead side.Vans before left g h) where
  -- and those of the gates are broken
  gates_break : (r : Refusal) → RowsBroken (sides h).n left.total left.rest.now r → GatesBroken (sides g).n before.total before.rest.now r
  gates_break r b = after vans.rows left.rest.now vans.ok vans.took.is (subst₂ (λ n t. RowsBroken n t left.rest.now r) vans.count vans.took.total b)

  -- and those of the gates
  gates_read : (end : Reader) (k : Gates) → RowsRead side.Gates left end h k → GatesRead (sides g).n before end k
  gates_read end k gates = record {
    vans = vans.rows;
    gates = gates.rows;
    ok = (vans.ok, subst (λ n. RowsOk n gates.rows) vans.count gates.ok);
    took = record {
      is = vans.took.is ∙ ap (λ z. flat_map row_bytes vans.rows ++ z) gates.took.is ∙ sym (append_assoc (flat_map row_bytes vans.rows) (flat_map row_bytes gates.rows) end.rest.now);
      total = gates.took.total ∙ vans.took.total;
    };
    count = gates.count ∙ vans.count;
    stand = (
      subst (λ t. Stand (sides g).n vans.rows t) (sym gates.other) vans.stand,
      subst (λ n. Stand n gates.rows k.gates) vans.count gates.stand,
    );
  }

  pub gates_end : (end : Reader) (k : Gates) (r : Result (Unit {0}) RecordFault) →
      MatchResult r (λ _. RowsRead side.Gates left end h k) (λ e. RowsBroken (sides h).n left.total left.rest.now (record_row e)) →
      MatchResult r (λ _. GatesRead (sides g).n before end k) (λ e. GatesBroken (sides g).n before.total before.rest.now (record_row e))
  gates_end end k (Ok _) gates = gates_read end k gates
  gates_end end k (Err e) b = gates_break (record_row e) b
