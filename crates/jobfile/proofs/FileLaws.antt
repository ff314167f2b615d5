-- A job file is read in one way: it is that of one job, or it is broken, in one place only. Assumes nothing.
use Rattle.std.proofs.Common.{◌≡◌, ℕ, ◌+◌, ◌<◌, ◌≤◌, List, [], ◌++◌, length, sym, refl, ap, subst, subst₂, inl, inr, append-nil, arith}
use Rattle.refusal.specs.declared.Refusal.{Refusal}
use Rattle.wire.specs.Frames.{IsLetter, headed, Framed, Behind}
use Rattle.wire.proofs.Framing.{frame_one_refusal, framed_not_broken, framed_one, behind_one}
use Rattle.jobfile.specs.Forms.{Form, letter_of, size_of, body_of, encoded, Rules, WellFormed}
use Rattle.jobfile.specs.Table.{TraceBroken, GatesBroken, Broken, frame, trace, gates, behind}
use Rattle.jobfile.proofs.BodyLaws.{trace_not_broken, trace_one_refusal, gates_not_broken, gates_one_refusal, body_one}

a_letter : (f : Form) → IsLetter (letter_of f)
a_letter (Form.trace n watch wish channels events) = inl refl
a_letter (Form.gates n vans sides) = inr refl

pub framed : (f : Form) → WellFormed f → (file : List ℕ) → encoded f ≡ file → Framed file (letter_of f) (size_of f) (body_of f)
framed f good file is =
    let long : 7 + length (body_of f) ≡ length (encoded f) = omega arith in
    subst (λ l. Framed l (letter_of f) (size_of f) (body_of f)) is
    (record { short = good.short; is = ap (λ k. headed k (letter_of f) (size_of f) (body_of f)) long; lettered = a_letter f; some = good.some; few = good.few })

-- nothing follows the body
framed_whole : (f : Form) → WellFormed f → (file : List ℕ) → encoded f ≡ file → Framed file (letter_of f) (size_of f) (body_of f ++ [])
framed_whole f good file is = subst (Framed file (letter_of f) (size_of f)) (sym (append-nil (body_of f))) (framed f good file is)

-- two jobs whose bodies stand behind one frame
module _ {file : List ℕ} (f g : Form) (t u : List ℕ) where
  two_bodies : Framed file (letter_of f) (size_of f) (body_of f ++ t) → Rules f → Framed file (letter_of g) (size_of g) (body_of g ++ u) → Rules g → (f ≡ g) × (t ≡ u)
  two_bodies fr rf gr rg =
      let (letter, size, body) = framed_one fr gr in
      body_one f g t u gr.few rf rg letter size body

pub one_job : (f g : Form) → WellFormed f → WellFormed g → encoded f ≡ encoded g → f ≡ g
one_job f g wf wg e = (two_bodies f g [] [] (framed_whole f wf (encoded g) e) wf.rules (framed_whole g wg (encoded g) refl) wg.rules).0

-- a body of which all is good is not broken
module _ (file : List ℕ) (n : ℕ) (body : List ℕ) (t : List ℕ) (r : Refusal) where
  not_trace_broken : (f : Form) → Framed file (letter_of f) (size_of f) (body_of f ++ t) → Rules f → Framed file 84 n body → TraceBroken n (length file) body r → ⊥
  not_trace_broken (Form.trace m watch wish channels events) fr rules gr x =
      let (letter, size, same) = framed_one fr gr in
      trace_not_broken m fr.few (length file) watch wish channels events body t r rules (sym same) (subst (λ k. TraceBroken k (length file) body r) (sym size) x)
  not_trace_broken (Form.gates m vans sides) fr rules gr x =
      let (letter, size, same) = framed_one fr gr in
      omega arith

  not_gates_broken : (f : Form) → Framed file (letter_of f) (size_of f) (body_of f ++ t) → Rules f → Framed file 77 n body → GatesBroken n (length file) body r → ⊥
  not_gates_broken (Form.trace m watch wish channels events) fr rules gr x =
      let (letter, size, same) = framed_one fr gr in
      omega arith
  not_gates_broken (Form.gates m vans sides) fr rules gr x =
      let (letter, size, same) = framed_one fr gr in
      gates_not_broken m (length file) vans sides body t r rules.0 rules.1 (sym same) (subst (λ k. GatesBroken k (length file) body r) (sym size) x)

some_behind : {total : ℕ} {t : List ℕ} {r : Refusal} → Behind total t r → 0 < length t
some_behind (Behind.behind h) = h

pub not_broken : (f : Form) (file : List ℕ) → WellFormed f → encoded f ≡ file → (r : Refusal) → Broken file r → ⊥
not_broken f file good is _ (frame x) = framed_not_broken (framed f good file is) x
not_broken f file good is _ (trace {r} n body fr x) = not_trace_broken file n body [] r f (framed_whole f good file is) good.rules fr x
not_broken f file good is _ (gates {r} n body fr x) = not_gates_broken file n body [] r f (framed_whole f good file is) good.rules fr x
not_broken f file good is _ (behind g t fr rules x) =
    omega (arith, some_behind x, ap length (two_bodies f g [] t (framed_whole f good file is) good.rules fr rules).1)

-- a body is broken in one place only
module _ {file : List ℕ} {n m : ℕ} {body rest : List ℕ} {letter : ℕ} (fr : Framed file letter n body) (gr : Framed file letter m rest) where
  one_broken : (Breaks : ℕ → ℕ → List ℕ → Refusal → Type 0) → (n ≤ 16 → (total : ℕ) (s : List ℕ) (r q : Refusal) → Breaks n total s r → Breaks n total s q → r ≡ q) →
      (r q : Refusal) → Breaks n (length file) body r → Breaks m (length file) rest q → r ≡ q
  one_broken Breaks one r q x y =
      let (_, size, same) = framed_one fr gr in
      one fr.few (length file) body r q x (subst₂ (λ k l. Breaks k (length file) l q) (sym size) (sym same) y)

pub one_refusal : (file : List ℕ) (r q : Refusal) → Broken file r → Broken file q → r ≡ q
one_refusal file _ _ (frame x) (frame y) = frame_one_refusal file x y
one_refusal file _ _ (frame x) (trace n body fr y) = absurd (framed_not_broken fr x)
one_refusal file _ _ (frame x) (gates n body fr y) = absurd (framed_not_broken fr x)
one_refusal file _ _ (frame x) (behind f t fr rules y) = absurd (framed_not_broken fr x)
one_refusal file _ _ (trace n body fr x) (frame y) = absurd (framed_not_broken fr y)
one_refusal file _ _ (trace {r} n body fr x) (trace {r = q} m rest gr y) = one_broken fr gr TraceBroken (trace_one_refusal n) r q x y
one_refusal file _ _ (trace n body fr x) (gates m rest gr y) = let z = (framed_one fr gr).0 in absurd (omega arith)
one_refusal file _ _ (trace {r} n body fr x) (behind f t gr rules y) = absurd (not_trace_broken file n body t r f gr rules fr x)
one_refusal file _ _ (gates n body fr x) (frame y) = absurd (framed_not_broken fr y)
one_refusal file _ _ (gates n body fr x) (trace m rest gr y) = let z = (framed_one fr gr).0 in absurd (omega arith)
one_refusal file _ _ (gates {r} n body fr x) (gates {r = q} m rest gr y) = one_broken fr gr GatesBroken (λ _. gates_one_refusal n) r q x y
one_refusal file _ _ (gates {r} n body fr x) (behind f t gr rules y) = absurd (not_gates_broken file n body t r f gr rules fr x)
one_refusal file _ _ (behind f t fr rules x) (frame y) = absurd (framed_not_broken fr y)
one_refusal file _ _ (behind f t fr rules x) (trace {r} m rest gr y) = absurd (not_trace_broken file m rest t r f fr rules gr y)
one_refusal file _ _ (behind f t fr rules x) (gates {r} m rest gr y) = absurd (not_gates_broken file m rest t r f fr rules gr y)
one_refusal file _ _ (behind {r} f t fr rules x) (behind g u gr more y) = behind_one (subst (λ l. Behind (length file) l r) (two_bodies f g t u fr rules gr more).1 x) y
