-- `replay::room` meets its contract: by a law, since computing the list would be long. Assumes nothing.
use Rattle.replay.proofs.Rooms.{zeros}
use Rattle.replay.proofs.room.Goals as goal

pub returns : goal.returns
returns c = zeros 1179648
