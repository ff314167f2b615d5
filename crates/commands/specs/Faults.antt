-- The texts of the faults of a line. Assumes nothing.
use Rattle.std.specs.Prelude.{ℕ, List, codes}
use Rattle.commands.specs.declared.command.LineFault.{LineFault}
use Rattle.commands.specs.declared.command.LineFault.TheVariants.{Unknown, Words, Number, Condition}

abbrev pub fault_text : LineFault → List ℕ
fault_text Unknown = codes "no such command"
fault_text Words = codes "a word is missing, or there is one too many"
fault_text Number = codes "a word is no number, or the number is too great"
fault_text Condition = codes "no such condition"
