-- An event's record is read in one way. Assumes nothing.
use Rattle.std.proofs.Common.{◌≡◌, ℕ, ◌<◌, List, ◌∷◌, ◌++◌, length, sym, refl, ap, ◌∙◌, arith, length-append}
use Rattle.refusal.specs.declared.Refusal.{Refusal}
use Rattle.wire.specs.Bytes.{word2}
use Rattle.wire.specs.Records.{Raw, local, send, receive, record_bytes, sized, sized_record, OwnRules, RecordBroken, no_length, cut_short, no_event}
use Rattle.wire.proofs.Words.{word2_one, split_same}
use Rattle.wire.proofs.OneWay.{OneWay}

-- records of two letters
not_one : {P : Type 0} {p q a b : ℕ} {x y : List ℕ} → p ∷ a ∷ x ≡ q ∷ b ∷ y → (a ≡ b → ⊥) → P
not_one e other = absurd (other cc)

-- the bytes of a record tell what it says
raw_one : (n width : ℕ) (a b : Raw) → OwnRules n width a → OwnRules n width b → record_bytes a ≡ record_bytes b → a ≡ b
raw_one n width (local p x) (local q y) ga gb e = cc
raw_one n width (local p x) (send q to m y) ga gb e = not_one e (omega arith)
raw_one n width (local p x) (receive q m y) ga gb e = not_one e (omega arith)
raw_one n width (send p to m x) (local q y) ga gb e = not_one e (omega arith)
raw_one n width (send p to m x) (send q for k y) ga gb e =
    let w : word2 m ≡ word2 k = cc in
    let same = word2_one m k ga.3 gb.3 w in
    cc
raw_one n width (send p to m x) (receive q k y) ga gb e = not_one e (omega arith)
raw_one n width (receive p m x) (local q y) ga gb e = not_one e (omega arith)
raw_one n width (receive p m x) (send q to k y) ga gb e = not_one e (omega arith)
raw_one n width (receive p m x) (receive q k y) ga gb e =
    let w : word2 m ≡ word2 k = cc in
    let same = word2_one m k ga.1 gb.1 w in
    cc

-- two bodies behind their lengths, in one place
sized_one : {s : List ℕ} (x y t u : List ℕ) → s ≡ sized x ++ t → s ≡ sized y ++ u → (x ≡ y) × (t ≡ u)
sized_one x y t u ex ey =
    let e = sym ex ∙ ey in
    let long : length x ≡ length y = cc in
    let same : x ++ t ≡ y ++ u = cc in
    split_same x y t u long same

-- a record that stands there whole
not_cut : {s : List ℕ} (x t u : List ℕ) (size : ℕ) → s ≡ sized x ++ t → s ≡ size ∷ u → length u < size → ⊥
not_cut x t u size ex eu short =
    let e = sym ex ∙ eu in
    let long : length x ≡ size = cc in
    let rest : x ++ t ≡ u = cc in
    omega (arith, ap length rest, length-append x t)

not_none : {s : List ℕ} (x t : List ℕ) → s ≡ sized x ++ t → length s ≡ 0 → ⊥
not_none x t ex none = omega (arith, ap length ex)

module _ (total n width : ℕ) where
  record_not_both : {s : List ℕ} (t : List ℕ) (a : Raw) {r : Refusal} → OwnRules n width a → s ≡ sized_record a ++ t → RecordBroken total n width s r → ⊥
  record_not_both t a ga ea (no_length none) = not_none (record_bytes a) t ea none
  record_not_both t a ga ea (cut_short size u eu short) = not_cut (record_bytes a) t u size ea eu short
  record_not_both t a ga ea (no_event body u eu other) = other a ga (sized_one body (record_bytes a) u t eu ea).0

  record_one_refusal : {s : List ℕ} {r q : Refusal} → RecordBroken total n width s r → RecordBroken total n width s q → r ≡ q
  record_one_refusal (no_length x) (no_length y) = refl
  record_one_refusal (no_length x) (cut_short size t e short) = refl
  record_one_refusal (no_length x) (no_event body t e other) = absurd (not_none body t e x)
  record_one_refusal (cut_short size t e short) (no_length y) = refl
  record_one_refusal (cut_short size t e short) (cut_short big u k little) = refl
  record_one_refusal (cut_short size t e short) (no_event body u k other) = absurd (not_cut body u t size k e short)
  record_one_refusal (no_event body t e other) (no_length y) = absurd (not_none body t e y)
  record_one_refusal (no_event body t e other) (cut_short size u k short) = absurd (not_cut body t u size e k short)
  record_one_refusal (no_event body t e other) (no_event x u k more) = refl

  pub record_one_way : OneWay (OwnRules n width) sized_record (RecordBroken total n width)
  record_one_way = record {
    one_value = λ {s} {t} {u} {a} {b} ga ea gb eb.
        let (same, rest) = sized_one (record_bytes a) (record_bytes b) t u ea eb in
        (raw_one n width a b ga gb same, rest);
    not_both = λ t {a} ga ea x. record_not_both t a ga ea x;
    one_refusal = λ x y. record_one_refusal x y;
  }
