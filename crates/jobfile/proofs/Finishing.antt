-- From the frame of a file and what was taken of its body to the job of the whole file, or to what is broken. Assumes nothing.
use Rattle.std.proofs.Common.{◌≡◌, ℕ, ◌+◌, ◌<◌, ◌≤◌, List, ◌++◌, length, get_or, drop, sym, refl, ap, ◌∙◌, subst, subst₂, append-nil, arith}
use Rattle.std.proofs.lemmas.List.{nil_from_length}
use Rattle.refusal.specs.declared.Refusal.{Refusal}
use Rattle.gates.specs.declared.gates.Gates.{Gates}
use Rattle.cuts.specs.declared.job.TraceJob.{TraceJob}
use Rattle.cuts.specs.Jobs.{listed, happened}
use Rattle.wire.specs.declared.reader.Reader.{Reader}
use Rattle.wire.specs.Frames.{largest, headed, Framed, Behind}
use Rattle.jobfile.specs.Forms.{Form, letter_of, size_of, body_of, encoded, Rules}
use Rattle.jobfile.specs.Table.{TraceBroken, GatesBroken, Broken, trace, gates, behind}
use Rattle.jobfile.specs.Fields.{TraceRead, GatesRead}
use Rattle.jobfile.specs.Jobs.{HeldBy, Whole}

-- a reader that stands behind the frame
pub record Begins (file : List ℕ) (letter n : ℕ) (before : Reader) : Type 0 where
  pub framed : Framed file letter n (drop 7 file)
  pub total : before.total ≡ length file
  pub rest : before.rest.now ≡ drop 7 file

-- the body behind the frame, as the reader has it
body_framed : {file : List ℕ} {letter n : ℕ} {before : Reader} → Begins file letter n before → Framed file letter n before.rest.now
body_framed {file} {letter} {n} b = subst (Framed file letter n) (sym b.rest) b.framed

pub trace_fails : (file : List ℕ) (letter n : ℕ) (before : Reader) (r : Refusal) → Begins file letter n before → letter ≡ 84 → TraceBroken n before.total before.rest.now r → Broken file r
trace_fails file letter n before r b is x =
    trace n before.rest.now (subst (λ l. Framed file l n before.rest.now) is (body_framed b)) (subst (λ k. TraceBroken n k before.rest.now r) b.total x)

pub gates_fails : (file : List ℕ) (letter n : ℕ) (before : Reader) (r : Refusal) → Begins file letter n before → letter ≡ 77 → GatesBroken n before.total before.rest.now r → Broken file r
gates_fails file letter n before r b is x =
    gates n before.rest.now (subst (λ l. Framed file l n before.rest.now) is (body_framed b)) (subst (λ k. GatesBroken n k before.rest.now r) b.total x)

-- the whole body was taken, and something may be left
pub record Taken (file : List ℕ) (letter : ℕ) (left : Reader) (t t' : TraceJob) (g g' : Gates) : Type 0 where
  pub form : Form
  pub framed : Framed file (letter_of form) (size_of form) (body_of form ++ left.rest.now)
  pub rules : Rules form
  pub total : left.total ≡ length file
  pub held : HeldBy letter t' g' form
  pub same_trace : (letter ≡ 84 → ⊥) → t' ≡ t
  pub same_gates : (letter ≡ 77 → ⊥) → g' ≡ g

module _ (file : List ℕ) (letter n : ℕ) (before left : Reader) (t t' : TraceJob) (g g' : Gates) (b : Begins file letter n before) where
  pub trace_taken : letter ≡ 84 → (after : Reader) (job : TraceJob) → left ≡ after → t' ≡ job → g' ≡ g → TraceRead n before after job → Taken file letter left t t' g g'
  trace_taken is after job at new same read =
      let x : TraceRead n before left t' = subst₂ (TraceRead n before) (sym at) (sym new) read in
      record {
        form = Form.trace n t'.watch t'.wish (listed t') (happened t');
        framed = subst₂ (λ l s. Framed file l n s) is x.took.is (body_framed b);
        rules = x.rules;
        total = x.took.total ∙ b.total;
        held = record { lettered = is; count = x.count; watches = refl; wishes = refl; lists = refl; happened = refl };
        same_trace = λ other. absurd (other is);
        same_gates = λ _. same;
      }

  pub gates_taken : letter ≡ 77 → (after : Reader) (sides : Gates) → left ≡ after → t' ≡ t → g' ≡ sides → GatesRead n before after sides → Taken file letter left t t' g g'
  gates_taken is after sides at same new read =
      let x : GatesRead n before left g' = subst₂ (GatesRead n before) (sym at) (sym new) read in
      record {
        form = Form.gates n x.vans x.gates;
        framed = subst₂ (λ l s. Framed file l n s) is x.took.is (body_framed b);
        rules = x.ok;
        total = x.took.total ∙ b.total;
        held = record { lettered = is; count = x.count; of_vans = x.stand.0; of_gates = x.stand.1 };
        same_trace = λ _. same;
        same_gates = λ other. absurd (other is);
      }

module _ (file : List ℕ) (letter : ℕ) (left : Reader) (t t' : TraceJob) (g g' : Gates) (x : Taken file letter left t t' g g') where
  -- something is left behind the body
  pub end_fails : (r : Refusal) → Behind left.total left.rest.now r → Broken file r
  end_fails r b = behind x.form left.rest.now x.framed x.rules (subst (λ k. Behind k left.rest.now r) x.total b)

  -- nothing is left
  pub all_taken : ((k : ℕ) → get_or file k 0 < 256) → length left.rest.now ≡ 0 → Whole file letter t t' g g'
  all_taken bytes none =
      let form = x.form in
      let framed : Framed file (letter_of form) (size_of form) (body_of form) =
      subst (Framed file (letter_of form) (size_of form)) (ap (λ l. body_of form ++ l) (nil_from_length left.rest.now none) ∙ append-nil (body_of form)) x.framed in
      let long : length file ≡ 7 + length (body_of form) = omega (arith, ap length framed.is) in
      let is : encoded form ≡ file = sym (framed.is ∙ ap (λ k. headed k (letter_of form) (size_of form) (body_of form)) long) in
      record {
        form = form;
        good = record {
          some = framed.some;
          few = framed.few;
          rules = x.rules;
          short = subst (λ l. length l ≤ largest) (sym is) framed.short;
          bytes = subst (λ l. (k : ℕ) → get_or l k 0 < 256) (sym is) bytes;
        };
        is = is;
        held = x.held;
        same_trace = x.same_trace;
        same_gates = x.same_gates;
      }
