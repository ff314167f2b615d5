-- A small file for each row of the table of refusals. Assumes nothing.
use Rattle.std.specs.Prelude.{ℕ, ◌<◌, List, [], ◌∷◌, length}
use Rattle.refusal.specs.declared.Layer.TheVariants.{Frame, Record, Job}
use Rattle.refusal.specs.declared.Rule.TheVariants as rule
use Rattle.refusal.specs.Table.{row}
use Rattle.jobfile.specs.Table.{Broken}

pub record Rows : Type 0 where
  -- more than 16,384 bytes, whatever they are
  pub too_long : (file : List ℕ) → 16384 < length file → Broken file (row rule.TooLong 16384 Frame)
  -- no byte at all
  pub empty : Broken [] (row rule.Missing 0 Frame)
  -- version 2
  pub version : Broken (2 ∷ 0 ∷ 0 ∷ 0 ∷ 7 ∷ 84 ∷ 1 ∷ []) (row rule.Version 0 Frame)
  -- the length says 8, and there are 7 bytes
  pub false_length : Broken (1 ∷ 0 ∷ 0 ∷ 0 ∷ 8 ∷ 84 ∷ 1 ∷ []) (row rule.Length 1 Frame)
  -- the letter of a blank job
  pub letter_of_blank : Broken (1 ∷ 0 ∷ 0 ∷ 0 ∷ 7 ∷ 45 ∷ 1 ∷ []) (row rule.Letter 5 Frame)
  -- no vans
  pub no_vans : Broken (1 ∷ 0 ∷ 0 ∷ 0 ∷ 7 ∷ 77 ∷ 0 ∷ []) (row rule.Count 6 Frame)
  -- a trace that ends before its payload letter, and gates that end before their first row
  pub no_kind : Broken (1 ∷ 0 ∷ 0 ∷ 0 ∷ 7 ∷ 84 ∷ 1 ∷ []) (row rule.Missing 7 Job)
  pub no_row : Broken (1 ∷ 0 ∷ 0 ∷ 0 ∷ 7 ∷ 77 ∷ 1 ∷ []) (row rule.Missing 7 Record)
  -- a payload letter that is none
  pub other_kind : Broken (1 ∷ 0 ∷ 0 ∷ 0 ∷ 8 ∷ 84 ∷ 1 ∷ 65 ∷ []) (row rule.Field 7 Job)
  -- one event, of no bytes
  pub no_event : Broken (1 ∷ 0 ∷ 0 ∷ 0 ∷ 15 ∷ 84 ∷ 1 ∷ 75 ∷ 0 ∷ 0 ∷ 0 ∷ 0 ∷ 0 ∷ 1 ∷ 0 ∷ []) (row rule.Event 14 Record)
  -- process 0 receives message 7, which nobody sent
  pub unsent : Broken (1 ∷ 0 ∷ 0 ∷ 0 ∷ 20 ∷ 84 ∷ 1 ∷ 75 ∷ 0 ∷ 0 ∷ 0 ∷ 0 ∷ 0 ∷ 1 ∷ 5 ∷ 0 ∷ 82 ∷ 0 ∷ 7 ∷ 0 ∷ []) (row rule.Message 14 Job)
  -- one van, whose row has gate 1 for gate 0
  pub no_order : Broken (1 ∷ 0 ∷ 0 ∷ 0 ∷ 8 ∷ 77 ∷ 1 ∷ 1 ∷ []) (row rule.Row 7 Record)
  -- one van, one gate, and a byte behind their rows
  pub one_behind : Broken (1 ∷ 0 ∷ 0 ∷ 0 ∷ 10 ∷ 77 ∷ 1 ∷ 0 ∷ 0 ∷ 0 ∷ []) (row rule.Behind 9 Frame)
