-- The heights of a probe, word by word. Assumes nothing.
use Rattle.std.proofs.Common.{◌≡◌, ℕ, zero, suc, ◌+◌, ◌-◌, ◌<◌, ◌≤◌, List, [], ◌∷◌, ◌++◌, length, take, set, replicate, sym, refl, ap, ◌∙◌, subst, inl, inr, ◌⊎◌, ⊎_elim, append_assoc, arith}
use Rattle.std.proofs.lemmas.List.{set_at, take-replicate, length_push}
use Rattle.commands.specs.Words.{Writes}
use Rattle.commands.specs.Commands.{most32, EachWrites, none, more}
use Rattle.commands.specs.Behind.{Heights, NoHeights}

pub each_length : {ws : List (List ℕ)} {hs : List ℕ} → EachWrites ws hs → length ws ≡ length hs
each_length none = refl
each_length (more word h ws hs w e) = ap suc (each_length e)

each_push : {ws : List (List ℕ)} {hs : List ℕ} {word : List ℕ} {h : ℕ} → EachWrites ws hs → Writes word most32 h → EachWrites (ws ++ word ∷ []) (hs ++ h ∷ [])
each_push none w = more _ _ [] [] w none
each_push (more word h ws hs v e) w = more word h _ _ v (each_push e w)

-- the word behind some others writes a height too
each_at : (read : List (List ℕ)) (word : List ℕ) (after : List (List ℕ)) {hs : List ℕ} → EachWrites (read ++ word ∷ after) hs → (h : ℕ) × Writes word most32 h
each_at [] word after (more _ h _ _ w e) = (h, w)
each_at (r ∷ read) word after (more _ h _ _ w e) = each_at read word after e

padding : (n m : ℕ) (hs : List ℕ) → length hs ≤ n → n ≤ m → hs ++ replicate (n - length hs) 0 ≡ take n (hs ++ replicate m 0)
padding n m [] short enough = let whole : n - 0 ≡ n = omega arith in ap (λ k. replicate k 0) whole ∙ sym (take-replicate n m 0 enough)
padding zero m (h ∷ hs) short enough = absurd (omega arith)
padding (suc n) m (h ∷ hs) short enough =
    let less : suc n - suc (length hs) ≡ n - length hs = omega arith in
    ap (λ k. h ∷ hs ++ replicate k 0) less ∙ ap (λ l. h ∷ l) (padding n m hs (omega arith) (omega arith))

-- i words of all are read, and written down as heights
pub record Sofar (all left : List (List ℕ)) (i : ℕ) (heights : List ℕ) : Type 0 where
  pub read : List (List ℕ)
  pub written : List ℕ
  pub split : read ++ left ≡ all
  pub each : EachWrites read written
  pub many : length written ≡ i
  pub filled : heights ≡ written ++ replicate (32 - i) 0

pub start : (all : List (List ℕ)) → Sofar all all 0 (replicate 32 0)
start all = record { read = []; written = []; split = refl; each = none; many = refl; filled = refl }

module _ {all left : List (List ℕ)} {i : ℕ} {heights : List ℕ} (so : Sofar all left i heights) where
  module _ {word : List ℕ} {after : List (List ℕ)} (are : left ≡ word ∷ after) where
    pub one_more : {h : ℕ} → i < 32 → Writes word most32 h → Sofar all after (i + 1) (set heights i h)
    one_more {h} inside w = record {
      read = so.read ++ word ∷ [];
      written = so.written ++ h ∷ [];
      split = append_assoc so.read (word ∷ []) after ∙ ap (λ l. so.read ++ l) (sym are) ∙ so.split;
      each = each_push so.each w;
      many = length_push so.written h ∙ ap (λ n. n + 1) so.many;
      filled =
          let next : 32 - i ≡ suc (32 - (i + 1)) = omega arith in
          ap (λ l. set l i h) (so.filled ∙ ap (λ n. so.written ++ replicate n 0) next)
          ∙ set_at so.written 0 (replicate (32 - (i + 1)) 0) h i so.many
          ∙ sym (append_assoc so.written (h ∷ []) (replicate (32 - (i + 1)) 0));
    }

    pub no_height : ((v : ℕ) → Writes word most32 v → ⊥) → NoHeights all
    no_height bad hs each few =
        let (h, w) = each_at so.read word after (subst (λ l. EachWrites l hs) (sym so.split ∙ ap (λ l. so.read ++ l) are) each) in
        bad h w

  pub all_read : i ≤ 32 → (i ≡ 32) ⊎ (left ≡ []) → Heights all heights left
  all_read inside end = record {
    read = so.read;
    written = so.written;
    split = sym so.split;
    each = so.each;
    few = omega (arith, so.many);
    full = ⊎_elim (λ e. inl (so.many ∙ e)) inr end;
    padded = so.filled ∙ ap (λ n. so.written ++ replicate (32 - n) 0) (sym so.many) ∙ padding 32 32 so.written (omega (arith, so.many)) (omega arith);
  }
