-- `run_process::steps::run_block` meets its contract. Assumes nothing.
use Rattle.run_process.proofs.steps.run_block.Goals as goal

pub run_steps-requires : goal.run_steps-requires
run_steps-requires c = record {
  tested = c.requires.tested;
  ends = c.search_ends.ensures;
  output_room = c.requires.output_room;
}
