-- A file's frame is read in one way. Assumes nothing.
use Rattle.std.proofs.Common.{◌≡◌, ℕ, List, length, get_or, sym, refl, ap, ◌∙◌, subst, arith}
use Rattle.refusal.specs.declared.Refusal.{Refusal}
use Rattle.wire.specs.Bytes.{number4}
use Rattle.wire.specs.Parts.{Checks, broken, kept}
use Rattle.wire.specs.Frames.{IsLetter, Framed, FrameBroken, Behind, behind}
use Rattle.wire.proofs.Words.{number_word4}
use Rattle.wire.proofs.OneWay.{checks_one}

pub frame_one_refusal : (file : List ℕ) {r q : Refusal} → FrameBroken file r → FrameBroken file q → r ≡ q
frame_one_refusal file =
    checks_one λ _ _. checks_one λ _ _. checks_one λ _ _. checks_one λ _ _. checks_one λ _ _. checks_one λ _ _ x y. absurd x

-- a check that is kept, before checks none of which is broken
kept_none : {Kept : Type 0} {Later : Refusal → Type 0} {r q : Refusal} → Kept → (Later q → ⊥) → Checks Kept r Later q → ⊥
kept_none k none (broken denied) = denied k
kept_none k none (kept l x) = none x

-- the length stands in the bytes behind the version
length-stands : {file body : List ℕ} {letter n : ℕ} → Framed file letter n body → number4 file 1 ≡ length file
length-stands {file} f = ap (λ l. number4 l 1) f.is ∙ number_word4 (length file) f.short

pub framed_not_broken : {file body : List ℕ} {letter n : ℕ} {r : Refusal} → Framed file letter n body → FrameBroken file r → ⊥
framed_not_broken f =
    kept_none f.short
    (kept_none (omega (arith, ap length f.is))
    (kept_none (ap (λ l. get_or l 0 0) f.is)
    (kept_none (length-stands f)
    (kept_none (subst IsLetter (sym (ap (λ l. get_or l 5 0) f.is)) f.lettered)
    (kept_none (omega (arith, f.some, ap (λ l. get_or l 6 0) f.is), omega (arith, f.few, ap (λ l. get_or l 6 0) f.is)) (λ x. x))))))

pub framed_one : {file body rest : List ℕ} {letter n l m : ℕ} → Framed file letter n body → Framed file l m rest → (letter ≡ l) × (n ≡ m) × (body ≡ rest)
framed_one f g =
    let e = sym f.is ∙ g.is in
    (cc, cc, cc)

pub behind_one : {total : ℕ} {s : List ℕ} {r q : Refusal} → Behind total s r → Behind total s q → r ≡ q
behind_one (behind h) (behind k) = refl
