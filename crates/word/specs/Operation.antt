-- How an opcode asks for an operation: document 01, 'One step'.
use Rattle.word.specs.declared.Op.{Op}

-- on the operands as they come, on the operands turned, or not at all
pub data Asked : Type 0 where
  Given : Op → Asked
  Turned : Op → Asked
  Other : Asked
