-- `reader::read` meets its contract: after a word that is found the rest is read in the form of its opcode.
use Rattle.reader.proofs.Answers.{reads_rest}
use Rattle.reader.proofs.read.Goals as goal

pub returns-in-Registers : goal.returns-in-Registers
returns-in-Registers c = reads_rest _ c.read_registers.result c.in-Some.ensures c.in-Registers.ensures c.read_registers.ensures

pub returns-in-Immediate : goal.returns-in-Immediate
returns-in-Immediate c = reads_rest _ c.read_immediate.result c.in-Some.ensures c.in-Immediate.ensures c.read_immediate.ensures

pub returns-in-Reserved : goal.returns-in-Reserved
returns-in-Reserved c = reads_rest _ c.read_cell.result c.in-Some.ensures c.in-Reserved.ensures c.read_cell.ensures
