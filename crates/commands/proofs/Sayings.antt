-- What a line says by its first word, and what it cannot say. Assumes nothing.
use Rattle.std.proofs.Common.{◌≡◌, ◌≢◌, ℕ, ◌≤◌, cond, List, [], ◌∷◌, codes, sym, refl, ap, ◌∙◌, subst, subst₂, inl, inr, ◌⊎◌, ⊎_elim, Bor, Option, Some, None, MatchOption, length, append-nil, arith, length-append}
use Rattle.std.specs.Str.{bytes_eq}
use Rattle.std.specs.Option.{unwrap_or}
use Rattle.std.proofs.lemmas.List.{nil_from_length}
use Rattle.commands.specs.declared.command.Asked.{Asked}
use Rattle.commands.specs.declared.command.Command.{Command}
use Rattle.commands.specs.declared.command.Command.TheVariants as command
use Rattle.commands.specs.Words.{words, Writes}
use Rattle.commands.specs.Commands as says
use Rattle.commands.specs.Commands.{Says, EachWrites, asked_word, most32, most64}
use Rattle.commands.specs.Behind.{SayNone, Begin, Bound, NoBound, Heights}
use Rattle.commands.proofs.Heights.{each_length}

-- the names of the commands
pub data Name : Type 0 where
  Job : Name
  New : Name
  Floor : Name
  Ceiling : Name
  Run : Name
  Read : Name
  Probe : Name
  Clocks : Name
  Report : Name

abbrev pub name_word : Name → List ℕ
name_word Job = codes "job"
name_word New = codes "new"
name_word Floor = codes "floor"
name_word Ceiling = codes "ceiling"
name_word Run = codes "run"
name_word Read = codes "read"
name_word Probe = codes "probe"
name_word Clocks = codes "clocks"
name_word Report = codes "report"

-- the words are not one number
abbrev NotOne : ℕ → List (List ℕ) → Type 0
NotOne most ws = (a : List ℕ) (v : ℕ) → ws ≡ a ∷ [] → Writes a most v → ⊥

-- the words do not fit behind the name
abbrev pub Cannot : Name → List (List ℕ) → Type 0
Cannot Job ws = (ws ≡ [] → ⊥) × ((a : List ℕ) → ws ≡ a ∷ [] → ⊥)
Cannot New ws = ws ≡ [] → ⊥
Cannot Floor ws = NoBound ws
Cannot Ceiling ws = NoBound ws
Cannot Run ws = NotOne most32 ws
Cannot Read ws = ws ≡ [] → ⊥
Cannot Probe ws = (c : Asked) (further : List (List ℕ)) (hs : List ℕ) → ws ≡ asked_word c ∷ further → EachWrites further hs → length hs ≤ 32 → ⊥
Cannot Clocks ws = ws ≡ [] → ⊥
Cannot Report ws = NotOne most64 ws

-- a line that says something: a name, and words that fit
record Parts (line : List ℕ) : Type 0 where
  name : Name
  behind : List (List ℕ)
  are : words line ≡ name_word name ∷ behind
  fit : Cannot name behind → ⊥

parts : {line : List ℕ} {c : Command} → Says line c → Parts line
parts (says.job {x} e) = record { name = Job; behind = _; are = e; fit = λ bad. bad.1 x.now refl }
parts (says.no_bytes {x} e none) = record { name = Job; behind = _; are = e; fit = λ bad. bad.0 refl }
parts (says.new e) = record { name = New; behind = _; are = e; fit = λ bad. bad refl }
parts (says.floor a b {p} {h} e v w) = record { name = Floor; behind = _; are = e; fit = λ bad. bad a b p h refl v w }
parts (says.ceiling a b {p} {h} e v w) = record { name = Ceiling; behind = _; are = e; fit = λ bad. bad a b p h refl v w }
parts (says.run a {b} e w) = record { name = Run; behind = _; are = e; fit = λ bad. bad a b refl w }
parts (says.read e) = record { name = Read; behind = _; are = e; fit = λ bad. bad refl }
parts (says.probe ws hs {c} {heights} e each few padded) = record { name = Probe; behind = _; are = e; fit = λ bad. bad c ws hs refl each few }
parts (says.clocks e) = record { name = Clocks; behind = _; are = e; fit = λ bad. bad refl }
parts (says.report a {size} e w) = record { name = Report; behind = _; are = e; fit = λ bad. bad a size refl w }

-- the name of a word, if it is one
abbrev name_of : List ℕ → Name
name_of w =
    cond (bytes_eq w (codes "job")) Job (
    cond (bytes_eq w (codes "new")) New (
    cond (bytes_eq w (codes "floor")) Floor (
    cond (bytes_eq w (codes "ceiling")) Ceiling (
    cond (bytes_eq w (codes "run")) Run (
    cond (bytes_eq w (codes "read")) Read (
    cond (bytes_eq w (codes "probe")) Probe (cond (bytes_eq w (codes "clocks")) Clocks Report)))))))

back : (n : Name) → name_of (name_word n) ≡ n
back Job = refl
back New = refl
back Floor = refl
back Ceiling = refl
back Run = refl
back Read = refl
back Probe = refl
back Clocks = refl
back Report = refl

-- a word that may be left out
pub optional : {after left : List (List ℕ)} (r : Option (Bor (List ℕ))) (x none : Bor (List ℕ)) → MatchOption r ((after ≡ []) × (left ≡ [])) (λ w. after ≡ w.now ∷ left) → x ≡ unwrap_or r none → none.now ≡ [] → (after ≡ x.now ∷ left) ⊎ ((after ≡ []) × (left ≡ []) × (x.now ≡ []))
optional {left = left} (Some w) x none are is empty = inl (are ∙ ap (λ b. b.now ∷ left) (sym is))
optional None x none are is empty = inr (are.0, are.1, ap (λ b. b.now) is ∙ empty)

-- behind the first word, which was read off
module _ (ws after : List (List ℕ)) {r : Option (Bor (List ℕ))} {name : Bor (List ℕ)} (steps : MatchOption r ((ws ≡ []) × (after ≡ [])) (λ w. ws ≡ w.now ∷ after)) (some : r ≡ Some name) where
  first : ws ≡ name.now ∷ after
  first = rw some at steps

  pub no_name : ((n : Name) → name.now ≢ name_word n) → SayNone ws
  no_name none line c of s = let p = parts s in none p.name (cc (first, of, p.are))

  pub not_behind : (n : Name) → name.now ≡ name_word n → Cannot n after → SayNone ws
  not_behind n is bad line c of s =
      let p = parts s in
      let word_is : name_word n ≡ name_word p.name = cc (first, of, is, p.are) in
      let behind_is : after ≡ p.behind = cc (first, of, p.are) in
      p.fit (subst₂ Cannot (sym (back n) ∙ ap name_of word_is ∙ back p.name) behind_is bad)

  pub begins_job : (x : Bor (List ℕ)) (left : List (List ℕ)) → name.now ≡ codes "job" → (after ≡ x.now ∷ left) ⊎ ((after ≡ []) × (left ≡ []) × (x.now ≡ [])) → Begin ws (command.Job x) left
  begins_job x left is (inl e) = (λ end line of. says.job (cc (of, first, is, e, end)), λ more. not_behind Job is (λ n. absurd (cc (e, n)), λ a n. more (cc (e, n))))
  begins_job x left is (inr (e, end, none)) = (λ _ line of. says.no_bytes (cc (of, first, is, e)) none, λ more. absurd (more end))

  pub begins_new : name.now ≡ codes "new" → Begin ws command.New after
  begins_new is = (λ end line of. says.new (cc (of, first, is, end)), not_behind New is)

  pub begins_read : name.now ≡ codes "read" → Begin ws command.Read after
  begins_read is = (λ end line of. says.read (cc (of, first, is, end)), not_behind Read is)

  pub begins_clocks : name.now ≡ codes "clocks" → Begin ws command.Clocks after
  begins_clocks is = (λ end line of. says.clocks (cc (of, first, is, end)), not_behind Clocks is)

  module _ {left : List (List ℕ)} {a : List ℕ} (e : after ≡ a ∷ left) where
    -- a command of one number
    begins_one : (n : Name) (c : Command) (most : ℕ) → (NotOne most after → Cannot n after) → name.now ≡ name_word n → ((line : List ℕ) → words line ≡ name_word n ∷ a ∷ [] → Says line c) → Begin ws c left
    begins_one n c most unfit is say = (λ end line of. say line (cc (of, first, is, e, end)), λ more. not_behind n is (unfit (λ b v m _. more (cc (e, m)))))

    pub begins_run : {v : ℕ} → name.now ≡ codes "run" → Writes a most32 v → Begin ws (command.Run v) left
    begins_run is w = begins_one Run _ most32 (λ x. x) is (λ line are. says.run a are w)

    pub begins_report : {v : ℕ} → name.now ≡ codes "report" → Writes a most64 v → Begin ws (command.Report v) left
    begins_report is w = begins_one Report _ most64 (λ x. x) is (λ line are. says.report a are w)

    pub begins_probe : {c : Asked} {hs : List ℕ} {end : List (List ℕ)} → name.now ≡ codes "probe" → a ≡ asked_word c → Heights left hs end → Begin ws (command.Probe c hs) end
    begins_probe {c} {hs} {end} is asked h = (
      λ none line of.
          let e2 = append-nil h.read in
          says.probe left h.written (cc (of, first, is, e, asked)) (subst (λ l. EachWrites l h.written) (cc (h.split, none, e2)) h.each) h.few h.padded,
      λ more.
          not_behind Probe is λ c2 further hs2 n each few.
          let parts = length-append h.read end in
          let same : left ≡ further = cc (e, n) in
          ⊎_elim
          (λ full. more (nil_from_length end (omega (arith, parts, ap length h.split, ap length same, each_length h.each, each_length each, few, full))))
          more
          h.full,
    )

  -- a command of a place and a height
  begins_two : (n : Name) (c : Command) {p h : ℕ} {last : List (List ℕ)} → (NoBound after → Cannot n after) → name.now ≡ name_word n → (two : Bound after p h last) → ((line : List ℕ) → words line ≡ name_word n ∷ two.first ∷ two.second ∷ [] → Says line c) → Begin ws c last
  begins_two n c unfit is two say = (λ end line of. say line (cc (of, first, is, two.are, end)), λ more. not_behind n is (unfit (λ a b p h m _ _. more (cc (two.are, m)))))

  pub begins_floor : {p h : ℕ} {last : List (List ℕ)} → name.now ≡ codes "floor" → Bound after p h last → Begin ws (command.Floor p h) last
  begins_floor is two = begins_two Floor _ (λ x. x) is two (λ line are. says.floor two.first two.second are two.of_place two.of_height)

  pub begins_ceiling : {p h : ℕ} {last : List (List ℕ)} → name.now ≡ codes "ceiling" → Bound after p h last → Begin ws (command.Ceiling p h) last
  begins_ceiling is two = begins_two Ceiling _ (λ x. x) is two (λ line are. says.ceiling two.first two.second are two.of_place two.of_height)
