-- What each line of a replay says. Assumes nothing.
use Rattle.std.specs.Prelude.{◌≡◌, ℕ, ◌≤◌, Bool, true, false, List, [], ◌∷◌, ◌++◌, length, take, replicate, codes, ◌==◌}
use Rattle.std.specs.Borrow.{Bor}
use Rattle.commands.specs.declared.command.Command.{Command}
use Rattle.commands.specs.declared.command.Command.TheVariants.{Job, New, Floor, Ceiling, Run, Read, Probe, Clocks, Report}
use Rattle.commands.specs.declared.command.Asked.{Asked}
use Rattle.commands.specs.declared.command.Asked.TheVariants as asked
use Rattle.commands.specs.Words.{words, Writes}

-- the greatest numbers of 32 and of 64 bits
abbrev pub most32 : ℕ
most32 = 4294967295

abbrev pub most64 : ℕ
most64 = 18446744073709551615

-- the word of a condition
abbrev pub asked_word : Asked → List ℕ
asked_word asked.Job = codes "job"
asked_word asked.Consistent = codes "consistent"
asked_word asked.Watched = codes "watched"
asked_word asked.Channels = codes "channels"
asked_word asked.Gates = codes "gates"

-- a word for each height
pub data EachWrites : List (List ℕ) → List ℕ → Type 0 where
  none : EachWrites [] []
  more : (word : List ℕ) (h : ℕ) (ws : List (List ℕ)) (hs : List ℕ) → Writes word most32 h → EachWrites ws hs → EachWrites (word ∷ ws) (h ∷ hs)

-- the line says the command
pub data Says (line : List ℕ) : Command → Type 0 where
  job : {x : Bor (List ℕ)} → words line ≡ codes "job" ∷ x.now ∷ [] → Says line (Job x)
  no_bytes : {x : Bor (List ℕ)} → words line ≡ codes "job" ∷ [] → x.now ≡ [] → Says line (Job x)
  new : words line ≡ codes "new" ∷ [] → Says line New
  floor : (a b : List ℕ) {p h : ℕ} → words line ≡ codes "floor" ∷ a ∷ b ∷ [] → Writes a most64 p → Writes b most32 h → Says line (Floor p h)
  ceiling : (a b : List ℕ) {p h : ℕ} → words line ≡ codes "ceiling" ∷ a ∷ b ∷ [] → Writes a most64 p → Writes b most32 h → Says line (Ceiling p h)
  run : (a : List ℕ) {b : ℕ} → words line ≡ codes "run" ∷ a ∷ [] → Writes a most32 b → Says line (Run b)
  read : words line ≡ codes "read" ∷ [] → Says line Read
  probe : (ws : List (List ℕ)) (hs : List ℕ) {c : Asked} {heights : List ℕ} → words line ≡ codes "probe" ∷ asked_word c ∷ ws → EachWrites ws hs → length hs ≤ 32 → heights ≡ take 32 (hs ++ replicate 32 0) → Says line (Probe c heights)
  clocks : words line ≡ codes "clocks" ∷ [] → Says line Clocks
  report : (a : List ℕ) {size : ℕ} → words line ≡ codes "report" ∷ a ∷ [] → Writes a most64 size → Says line (Report size)

-- lines that say nothing: without words, or with a # in front
abbrev pub passed_over : List (List ℕ) → Bool
passed_over [] = true
passed_over ([] ∷ ws) = false
passed_over ((b ∷ w) ∷ ws) = b == 35
