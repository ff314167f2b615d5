-- The body of a job file is read in one way. Assumes nothing.
use Rattle.std.proofs.Common.{◌≡◌, ℕ, ◌^◌, ◌<◌, ◌≤◌, List, [], ◌∷◌, ◌++◌, length, refl, ap, ◌∙◌, subst, inl, inr, append_assoc, arith, pow_mono}
use Rattle.std.specs.List.{flat_map, AllByRecursion}
use Rattle.refusal.specs.declared.Refusal.{Refusal}
use Rattle.gates.specs.Orders.{OrderOf}
use Rattle.payload.specs.declared.wish.Wish.{Wish}
use Rattle.payload.specs.declared.wish.Wish.TheVariants.{Code, Scan}
use Rattle.payload.specs.Marks.{width_of}
use Rattle.trace.specs.declared.event.Event.{Event}
use Rattle.trace.specs.Events.{longest}
use Rattle.trace.specs.Growth.{Fits}
use Rattle.cuts.specs.declared.channel.Channel.{Channel}
use Rattle.wire.specs.Bytes.{word2}
use Rattle.wire.specs.Parts.{Then, Each}
use Rattle.wire.proofs.OneWay.{OneWay, then_not_both, then_one_refusal}
use Rattle.jobfile.specs.Forms.{Form, trace, gates, letter_of, size_of, kind_letter, wish_bytes, channel_bytes, event_bytes, trace_bytes, row_bytes, body_of}
use Rattle.jobfile.specs.Forms.{ChannelOk, EventOk, EventsOk, TraceRules, RowsOk, Rules}
use Rattle.jobfile.specs.Table.{Byte, Word, IsKind, WishOf, ChannelBroken, EventBroken, TraceBroken, RowBroken, GatesBroken}
use Rattle.jobfile.proofs.Prefixes.{events_split}
use Rattle.jobfile.proofs.EventLaws.{event_one_way}
use Rattle.jobfile.proofs.FieldLaws.{byte_one_way, word_one_way, wish_one_way, list_one_way, all_one_way, channel_one_way, row_one_way}

pub channels_one_way : (n total : ℕ) → n ≤ 16 → (count : ℕ) →
    OneWay (λ cs. (length cs ≡ count) × AllByRecursion (ChannelOk n) cs) (flat_map channel_bytes) (Each count (AllByRecursion (ChannelOk n)) channel_bytes (λ _. ChannelBroken n total))
channels_one_way n total few count = all_one_way (ChannelOk n) channel_bytes (ChannelBroken n total) (channel_one_way n total few) count

pub events_one_way : (n width total count : ℕ) →
    OneWay (λ es. (length es ≡ count) × EventsOk n width es) (flat_map (event_bytes width)) (Each count (EventsOk n width) (event_bytes width) (EventBroken n width total))
events_one_way n width total count =
    list_one_way (EventsOk n width) (λ es e. EventOk n width e × Fits n es e) (event_bytes width) (EventBroken n width total) (events_split n width) (λ es _. event_one_way n width total es) count

pub rows_one_way : (n total count : ℕ) →
    OneWay (λ rows. (length rows ≡ count) × AllByRecursion (OrderOf n) rows) (flat_map row_bytes) (Each count (AllByRecursion (OrderOf n)) row_bytes (λ _. RowBroken n total))
rows_one_way n total count = all_one_way (OrderOf n) row_bytes (RowBroken n total) (row_one_way n total) count

-- a part that stands there, with what follows it: then what follows is broken
then_broken : {A : Type 0} {Good : A → Type 0} {bytes : A → List ℕ} {Broken : List ℕ → Refusal → Type 0} {After : A → List ℕ → Refusal → Type 0} → OneWay Good bytes Broken →
    {s : List ℕ} {r : Refusal} → Then Good bytes Broken After s r → (a : A) (t : List ℕ) → Good a → s ≡ bytes a ++ t → (After a t r → ⊥) → ⊥
then_broken one x a t ga ea none = then_not_both one t ga ea none x

-- the body of a trace job, part by part, and what follows it
abbrev in_turn : ℕ → Wish → List Channel → List Event → List ℕ → List ℕ
in_turn watch wish channels events t =
    (kind_letter wish ∷ []) ++ (word2 watch ++ (wish_bytes wish
    ++ ((length channels ∷ []) ++ (flat_map channel_bytes channels
    ++ (word2 (length events) ++ (flat_map (event_bytes (width_of wish)) events ++ t))))))

seven_parts : (a b c d e f g t : List ℕ) → (a ++ (b ++ (c ++ (d ++ (e ++ (f ++ g)))))) ++ t ≡ a ++ (b ++ (c ++ (d ++ (e ++ (f ++ (g ++ t))))))
seven_parts a b c d e f g t = simp append_assoc

in_turn_is : (watch : ℕ) (wish : Wish) (channels : List Channel) (events : List Event) (t : List ℕ) → trace_bytes watch wish channels events ++ t ≡ in_turn watch wish channels events t
in_turn_is watch wish channels events t =
    seven_parts (kind_letter wish ∷ []) (word2 watch) (wish_bytes wish) (length channels ∷ []) (flat_map channel_bytes channels) (word2 (length events)) (flat_map (event_bytes (width_of wish)) events) t

pub kind_good : (wish : Wish) → Byte (kind_letter wish) × IsKind (kind_letter wish)
kind_good (Code c) = (omega arith, inl refl)
kind_good (Scan s) = (omega arith, inr refl)

-- the watch bits of up to sixteen processes fit into two bytes
pub bits_fit : (n watch : ℕ) → n ≤ 16 → watch < 2 ^ n → Word watch
bits_fit n watch few below = omega (arith, pow_mono few)

-- what the rules of a trace job say of each field
module _ (n : ℕ) (few : n ≤ 16) where
  module _ {watch : ℕ} {wish : Wish} {channels : List Channel} {events : List Event} (rules : TraceRules n watch wish channels events) where
    watch_good : Word watch × (watch < 2 ^ n)
    watch_good = (bits_fit n watch few rules.bits, rules.bits)

    wish_good : WishOf (kind_letter wish) wish × Unit {0}
    wish_good = ((refl, rules.wished), tt)

    count_good : Byte (length channels) × (length channels ≤ 8)
    count_good = (omega (arith, rules.few), rules.few)

    many_good : Word (length events) × (length events ≤ longest)
    many_good = (omega (arith, rules.happened.0.few), rules.happened.0.few)

  pub trace_not_broken : (total watch : ℕ) (wish : Wish) (channels : List Channel) (events : List Event) (s t : List ℕ) (r : Refusal) →
      TraceRules n watch wish channels events → s ≡ trace_bytes watch wish channels events ++ t → TraceBroken n total s r → ⊥
  trace_not_broken total watch wish channels events s t r rules e x =
      then_broken (byte_one_way IsKind total) x (kind_letter wish) _ (kind_good wish) (e ∙ in_turn_is watch wish channels events t) λ x₁.
      then_broken (word_one_way (λ bits. bits < 2 ^ n) total) x₁ watch _ (watch_good rules) refl λ x₂.
      then_broken (wish_one_way (kind_letter wish) total) x₂ wish _ (wish_good rules) refl λ x₃.
      then_broken (byte_one_way (λ count. count ≤ 8) total) x₃ (length channels) _ (count_good rules) refl λ x₄.
      then_broken (channels_one_way n total few (length channels)) x₄ channels _ (refl, rules.between) refl λ x₅.
      then_broken (word_one_way (λ many. many ≤ longest) total) x₅ (length events) _ (many_good rules) refl λ x₆.
      (events_one_way n (width_of wish) total (length events)).not_both t (refl, rules.happened) refl x₆

  pub trace_one_refusal : (total : ℕ) (s : List ℕ) (r q : Refusal) → TraceBroken n total s r → TraceBroken n total s q → r ≡ q
  trace_one_refusal total s r q =
      then_one_refusal (byte_one_way IsKind total) λ letter _ _ _ _.
      then_one_refusal (word_one_way (λ bits. bits < 2 ^ n) total) λ watch _ _ _ _.
      then_one_refusal (wish_one_way letter total) λ wish _ _ _ _.
      then_one_refusal (byte_one_way (λ count. count ≤ 8) total) λ count _ _ _ _.
      then_one_refusal (channels_one_way n total few count) λ channels _ _ _ _.
      then_one_refusal (word_one_way (λ many. many ≤ longest) total) λ many _ _ _ _.
      (events_one_way n (width_of wish) total many).one_refusal

  -- two bodies of trace jobs in one place
  trace_one : {watch bits : ℕ} {wish want : Wish} {channels pairs : List Channel} {events others : List Event} (t u : List ℕ) →
      TraceRules n watch wish channels events → TraceRules n bits want pairs others → trace_bytes watch wish channels events ++ t ≡ trace_bytes bits want pairs others ++ u →
      (trace n watch wish channels events ≡ trace n bits want pairs others) × (t ≡ u)
  trace_one {watch} {bits} {wish} {want} {channels} {pairs} {events} {others} t u f g e =
      let (letter, a) = (byte_one_way IsKind 0).one_value (kind_good wish) (in_turn_is watch wish channels events t) (kind_good want) (e ∙ in_turn_is bits want pairs others u) in
      let (watched, b) = (word_one_way (λ v. v < 2 ^ n) 0).one_value (watch_good f) refl (watch_good g) a in
      let (wished, c) = (wish_one_way (kind_letter want) 0).one_value ((letter, f.wished), tt) refl (wish_good g) b in
      let (count, d) = (byte_one_way (λ v. v ≤ 8) 0).one_value (count_good f) refl (count_good g) c in
      let (listed, h) = (channels_one_way n 0 few (length pairs)).one_value (count, f.between) refl (refl, g.between) d in
      let (many, k) = (word_one_way (λ v. v ≤ longest) 0).one_value (many_good f) refl (many_good g) h in
      let (ok, l) =
      subst (λ w. EventsOk n (width_of w) events × (flat_map (event_bytes (width_of w)) events ++ t ≡ flat_map (event_bytes (width_of want)) others ++ u)) wished (f.happened, k) in
      let (happened, rest) = (events_one_way n (width_of want) 0 (length others)).one_value (many, ok) refl (refl, g.happened) l in
      (cc, rest)

-- two lists of rows, one after the other
rows_in_turn : (vans sides : List (List ℕ)) (t : List ℕ) → (flat_map row_bytes vans ++ flat_map row_bytes sides) ++ t ≡ flat_map row_bytes vans ++ (flat_map row_bytes sides ++ t)
rows_in_turn vans sides t = append_assoc (flat_map row_bytes vans) (flat_map row_bytes sides) t

module _ (n : ℕ) where
  pub gates_not_broken : (total : ℕ) (vans sides : List (List ℕ)) (s t : List ℕ) (r : Refusal) →
      RowsOk n vans → RowsOk n sides → s ≡ (flat_map row_bytes vans ++ flat_map row_bytes sides) ++ t → GatesBroken n total s r → ⊥
  gates_not_broken total vans sides s t r ok also e x =
      then_broken (rows_one_way n total n) x vans _ ok (e ∙ rows_in_turn vans sides t) λ y.
      (rows_one_way n total n).not_both t also refl y

  pub gates_one_refusal : (total : ℕ) (s : List ℕ) (r q : Refusal) → GatesBroken n total s r → GatesBroken n total s q → r ≡ q
  gates_one_refusal total s r q = then_one_refusal (rows_one_way n total n) λ vans _ _ _ _. (rows_one_way n total n).one_refusal

  gates_one : {vans sides rows others : List (List ℕ)} (t u : List ℕ) → RowsOk n vans × RowsOk n sides → RowsOk n rows × RowsOk n others →
      (flat_map row_bytes vans ++ flat_map row_bytes sides) ++ t ≡ (flat_map row_bytes rows ++ flat_map row_bytes others) ++ u → (gates n vans sides ≡ gates n rows others) × (t ≡ u)
  gates_one {vans} {sides} {rows} {others} t u f g e =
      let (first, a) = (rows_one_way n 0 n).one_value f.0 (rows_in_turn vans sides t) g.0 (e ∙ rows_in_turn rows others u) in
      let (second, rest) = (rows_one_way n 0 n).one_value f.1 refl g.1 a in
      (cc, rest)

-- two bodies behind one frame, in one place
pub body_one : (f g : Form) (t u : List ℕ) → size_of g ≤ 16 → Rules f → Rules g → letter_of f ≡ letter_of g → size_of f ≡ size_of g → body_of f ++ t ≡ body_of g ++ u → (f ≡ g) × (t ≡ u)
body_one (trace n watch wish channels events) (trace m bits want pairs others) t u few rf rg l size e =
    let (same, rest) = trace_one m few t u (subst (λ k. TraceRules k watch wish channels events) size rf) rg e in
    (ap (λ k. trace k watch wish channels events) size ∙ same, rest)
body_one (trace n watch wish channels events) (gates m vans sides) t u few rf rg l size e = absurd (omega arith)
body_one (gates n vans sides) (trace m watch wish channels events) t u few rf rg l size e = absurd (omega arith)
body_one (gates n vans sides) (gates m rows others) t u few rf rg l size e =
    let (same, rest) = gates_one m t u (subst (λ k. RowsOk k vans × RowsOk k sides) size rf) rg e in
    (ap (λ k. gates k vans sides) size ∙ same, rest)
