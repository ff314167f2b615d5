-- The fields of a body, its channels and its rows are each read in one way, and so are lists of them. Assumes nothing.
use Rattle.std.proofs.Common.{◌≡◌, ℕ, ◌<◌, ◌≤◌, List, ◌∷◌, ◌++◌, length, sym, refl, ap, ◌∙◌, subst, arith, length-append}
use Rattle.std.specs.List.{flat_map, AllByRecursion}
use Rattle.refusal.specs.declared.Refusal.{Refusal}
use Rattle.gates.specs.Orders.{OrderOf}
use Rattle.payload.specs.declared.wish.Wish.{Wish}
use Rattle.payload.specs.declared.wish.Wish.TheVariants.{Code, Scan}
use Rattle.payload.specs.declared.kinds.ScanWish.{ScanWish}
use Rattle.cuts.specs.declared.channel.Channel.{Channel}
use Rattle.wire.specs.Bytes.{word2}
use Rattle.wire.specs.Parts.{Each, FieldBroken}
use Rattle.wire.proofs.Words.{byte_one, word2_one, split_same}
use Rattle.wire.proofs.OneWay.{OneWay, field_one_way, then_not_both, then_one_refusal}
use Rattle.wire.proofs.InTurn.{each_one_value, each_not_both, each_one_refusal}
use Rattle.jobfile.specs.Forms.{wish_bytes, channel_bytes, row_bytes, ChannelOk}
use Rattle.jobfile.specs.Table.{Byte, byte_of, Word, kind_width, WishOf, IsReceiver, ChannelBroken, RowBroken, missing, no_order}
use Rattle.jobfile.proofs.Prefixes.{all_split}

pub byte_one_way : (Range : ℕ → Type 0) (total : ℕ) → OneWay (λ v. Byte v × Range v) byte_of (FieldBroken 1 Byte byte_of Range total)
byte_one_way Range total = field_one_way 1 Byte byte_of Range total (λ a h. refl) (λ a b h k e. byte_one a b e)

pub word_one_way : (Range : ℕ → Type 0) (total : ℕ) → OneWay (λ v. Word v × Range v) word2 (FieldBroken 2 Word word2 Range total)
word_one_way Range total = field_one_way 2 Word word2 Range total (λ a h. refl) word2_one

-- a wish is as wide as its letter says
wish_long : (letter : ℕ) (w : Wish) → WishOf letter w → length (wish_bytes w) ≡ kind_width letter
wish_long letter (Code c) h = subst (λ l. 1 ≡ kind_width l) h.0 refl
wish_long letter (Scan s) h = subst (λ l. 4 ≡ kind_width l) h.0 refl

scan_one : (s r : ScanWish) → s.stop ≡ r.stop → s.parcels ≡ r.parcels → s ≡ r
scan_one s r p q = λ i. record { stop = p i; parcels = q i }

wish_one : (letter : ℕ) (v w : Wish) → WishOf letter v → WishOf letter w → wish_bytes v ≡ wish_bytes w → v ≡ w
wish_one letter (Code c) (Code d) g h e = cc
wish_one letter (Code c) (Scan s) g h e = absurd (omega arith)
wish_one letter (Scan s) (Code c) g h e = absurd (omega arith)
wish_one letter (Scan s) (Scan r) g h e =
    let (first, second) = split_same (word2 s.stop) (word2 r.stop) (word2 s.parcels) (word2 r.parcels) refl e in
    ap Scan (scan_one s r (word2_one s.stop r.stop g.1.0 h.1.0 first) (word2_one s.parcels r.parcels g.1.1 h.1.1 second))

pub wish_one_way : (letter total : ℕ) → OneWay (λ w. WishOf letter w × Unit {0}) wish_bytes (FieldBroken (kind_width letter) (WishOf letter) wish_bytes (λ _. Unit {0}) total)
wish_one_way letter total = field_one_way (kind_width letter) (WishOf letter) wish_bytes (λ _. Unit {0}) total (wish_long letter) (wish_one letter)

-- so many parts, each of which is read in one way behind those before it
module _ {A : Type 0} (Good : List A → Type 0) (Next : List A → A → Type 0) (bytes : A → List ℕ) (Broken : List A → List ℕ → Refusal → Type 0)
    (split : (xs ys : List A) (x : A) → Good (xs ++ x ∷ ys) → Good xs × Next xs x) (one_way : (xs : List A) → Good xs → OneWay (Next xs) bytes (Broken xs)) (count : ℕ) where
  pub list_one_way : OneWay (λ xs. (length xs ≡ count) × Good xs) (flat_map bytes) (Each count Good bytes Broken)
  list_one_way = record {
    one_value = λ {s} {t} {u} {a} {b} ga ea gb eb. each_one_value Good Next bytes Broken split one_way a b ga.1 gb.1 (ga.0 ∙ sym gb.0) ea eb;
    not_both = λ t {a} ga ea x. each_not_both Good Next bytes Broken split one_way t a count ga.1 ga.0 ea x;
    one_refusal = λ x y. each_one_refusal Good Next bytes Broken split one_way count x y;
  }

-- and if each is read in one way wherever it stands
pub all_one_way : {A : Type 0} (P : A → Type 0) (bytes : A → List ℕ) (Broken : List ℕ → Refusal → Type 0) → OneWay P bytes Broken → (count : ℕ) →
    OneWay (λ xs. (length xs ≡ count) × AllByRecursion P xs) (flat_map bytes) (Each count (AllByRecursion P) bytes (λ _. Broken))
all_one_way P bytes Broken one count = list_one_way (AllByRecursion P) (λ _. P) bytes (λ _. Broken) (all_split P) (λ _ _. one) count

channel_same : (a b : Channel) (t u : List ℕ) → channel_bytes a ++ t ≡ channel_bytes b ++ u → (a ≡ b) × (t ≡ u)
channel_same a b t u e =
    let p : a.sender ≡ b.sender = cc in
    let q : a.receiver ≡ b.receiver = cc in
    (λ i. record { sender = p i; receiver = q i }, cc)

pub channel_one_way : (n total : ℕ) → n ≤ 16 → OneWay (ChannelOk n) channel_bytes (ChannelBroken n total)
channel_one_way n total few = record {
  one_value = λ {s} {t} {u} {a} {b} ga ea gb eb. channel_same a b t u (sym ea ∙ eb);
  not_both = λ t {a} {r} ga ea x.
      let second : FieldBroken 1 Byte byte_of (IsReceiver n a.sender) total (a.receiver ∷ t) r → ⊥ =
      (byte_one_way (IsReceiver n a.sender) total).not_both t (omega arith, (ga.1, ga.2)) refl in
      then_not_both (byte_one_way (λ sender. sender < n) total) (a.receiver ∷ t) (omega arith, ga.0) ea second x;
  one_refusal = λ x y. then_one_refusal (byte_one_way (λ sender. sender < n) total) (λ a ga t r q. (byte_one_way (IsReceiver n a) total).one_refusal) x y;
}

module _ (n total : ℕ) where
  row_not_both : {s : List ℕ} (t list : List ℕ) {r : Refusal} → OrderOf n list → s ≡ list ++ t → RowBroken n total s r → ⊥
  row_not_both t list o e (missing short) = omega (arith, o.long, ap length e, length-append list t)
  row_not_both t list o e (no_order other u long k none) = none (subst (OrderOf n) (split_same list other t u (o.long ∙ sym long) (sym e ∙ k)).0 o)

  row_one_refusal : {s : List ℕ} {r q : Refusal} → RowBroken n total s r → RowBroken n total s q → r ≡ q
  row_one_refusal (missing h) (missing k) = refl
  row_one_refusal (missing h) (no_order list t long e none) = absurd (omega (arith, ap length e, length-append list t))
  row_one_refusal (no_order list t long e none) (missing h) = absurd (omega (arith, ap length e, length-append list t))
  row_one_refusal (no_order list t long e none) (no_order other u wide k no_more) = refl

  pub row_one_way : OneWay (OrderOf n) row_bytes (RowBroken n total)
  row_one_way = record {
    one_value = λ {s} {t} {u} {a} {b} ga ea gb eb. split_same a b t u (ga.long ∙ sym gb.long) (sym ea ∙ eb);
    not_both = λ t {a} ga ea x. row_not_both t a ga ea x;
    one_refusal = λ x y. row_one_refusal x y;
  }
