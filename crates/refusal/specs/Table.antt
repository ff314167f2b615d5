-- The table of refusals: the number of each rule, and how a refusal reads. Assumes nothing.
use Rattle.std.specs.Prelude.{◌≡◌, ℕ, ◌<◌, ◌⊎◌, List, ◌++◌, codes, decimal}
use Rattle.refusal.specs.declared.Rule.{Rule}
use Rattle.refusal.specs.declared.Rule.TheVariants as rule
use Rattle.refusal.specs.declared.Layer.{Layer}
use Rattle.refusal.specs.declared.Layer.TheVariants as layer
use Rattle.refusal.specs.declared.Refusal.{Refusal}

abbrev pub number_of : Rule → ℕ
number_of rule.TooLong = 1
number_of rule.Missing = 2
number_of rule.Version = 3
number_of rule.Length = 4
number_of rule.Letter = 5
number_of rule.Count = 6
number_of rule.Field = 7
number_of rule.Event = 8
number_of rule.Message = 9
number_of rule.Row = 10
number_of rule.Behind = 11
number_of rule.Room = 12
number_of rule.Place = 13
number_of rule.Height = 14
number_of (rule.Other number) = number

-- a rule with a number: the one of its row where the table has a row for it
abbrev pub IsRuleOf : ℕ → Rule → Type 0
IsRuleOf number broken = (number_of broken ≡ number) × ((n : ℕ) → broken ≡ rule.Other n → (n ≡ 0) ⊎ (14 < n))

abbrev pub layer_word : Layer → List ℕ
layer_word layer.Frame = codes "frame"
layer_word layer.Record = codes "record"
layer_word layer.Job = codes "job"
layer_word layer.Report = codes "report"
layer_word layer.Board = codes "board"

-- a row of the table: the rule, the byte, place or length that the row names, and the layer
abbrev pub row : Rule → ℕ → Layer → Refusal
row broken position layer = record { rule = broken; position = position; layer = layer }

-- as in: refused 4 at 1 in frame
abbrev pub refusal_words : Refusal → List ℕ
refusal_words r = codes "refused " ++ (decimal (number_of r.rule) ++ (codes " at " ++ (decimal r.position ++ (codes " in " ++ layer_word r.layer))))
