-- What stands behind the name of a command. Assumes nothing.
use Rattle.std.specs.Prelude.{◌≡◌, ◌≢◌, ℕ, ◌≤◌, true, List, [], ◌∷◌, ◌++◌, length, take, replicate, Result, Ok, Err, ◌⊎◌}
use Rattle.commands.specs.declared.command.Command.{Command}
use Rattle.commands.specs.Words.{words, all_digits, Writes}
use Rattle.commands.specs.Commands.{EachWrites, Says, most32, most64}

-- lines of these words say the command
abbrev pub Say : List (List ℕ) → Command → Type 0
Say ws c = (line : List ℕ) → words line ≡ ws → Says line c

-- lines of these words say nothing
abbrev pub SayNone : List (List ℕ) → Type 0
SayNone ws = (line : List ℕ) (c : Command) → words line ≡ ws → Says line c → ⊥

-- the words begin with the command: they say it if none are behind it, and nothing otherwise
abbrev pub Begin : List (List ℕ) → Command → List (List ℕ) → Type 0
Begin ws c behind = (behind ≡ [] → Say ws c) × (behind ≢ [] → SayNone ws)

module _ {A E : Type 0} (gives : List ℕ → Result A E → Type 0) where
  -- the first word has digits alone, and they are read as v
  pub record Number (ws : List (List ℕ)) (v : A) (after : List (List ℕ)) : Type 0 where
    pub word : List ℕ
    pub are : ws ≡ word ∷ after
    pub digits : all_digits word ≡ true
    pub value : gives word (Ok v)

  -- there is no first word, or it has other bytes too, or it is not read as any
  abbrev pub NoNumber : List (List ℕ) → Type 0
  NoNumber ws = (word : List ℕ) (after : List (List ℕ)) → ws ≡ word ∷ after → all_digits word ≡ true → (e : E) × gives word (Err e)

-- two numbers: a place and a height
pub record Bound (ws : List (List ℕ)) (place height : ℕ) (after : List (List ℕ)) : Type 0 where
  pub first : List ℕ
  pub second : List ℕ
  pub are : ws ≡ first ∷ second ∷ after
  pub of_place : Writes first most64 place
  pub of_height : Writes second most32 height

abbrev pub NoBound : List (List ℕ) → Type 0
NoBound ws = (a b : List ℕ) (place height : ℕ) → ws ≡ a ∷ b ∷ [] → Writes a most64 place → Writes b most32 height → ⊥

-- at most 32 heights, with 0 for those left out; and more words behind them only if there are 32
pub record Heights (ws : List (List ℕ)) (heights : List ℕ) (after : List (List ℕ)) : Type 0 where
  pub read : List (List ℕ)
  pub written : List ℕ
  pub split : ws ≡ read ++ after
  pub each : EachWrites read written
  pub few : length written ≤ 32
  pub full : (length written ≡ 32) ⊎ (after ≡ [])
  pub padded : heights ≡ take 32 (written ++ replicate 32 0)

-- more than 32 words, or one that writes no height
abbrev pub NoHeights : List (List ℕ) → Type 0
NoHeights ws = (hs : List ℕ) → EachWrites ws hs → length hs ≤ 32 → ⊥
