-- The numbers of document 01's section "Who can be refused, and why", in its order and words, and of the requests. Definitions only.
use Rattle.std.specs.Prelude.{ℕ}
use Rattle.refusal.specs.declared.Reason.{Reason}
use Rattle.refusal.specs.declared.Reason.TheVariants.{BlockLength, ShortArea, UnreadableStep, OutsideTable, OverLimit, SharedBuffer, TooManyValues, IdTaken, UnknownId, LongRamp, OddList, BadDirectory, ShortOutput, BadNode, NoSlot, NoFormat, OutOfRange, BadReturn, NoEntry, PairTwice, PairNotCovered}

abbrev pub number : Reason → ℕ
-- ---- layout writer
-- block outside 1 to 1,024
number BlockLength = 1
-- an area shorter than the call needs, in any call
number ShortArea = 2
-- a map not named, or a map or field past the end of the step words
number UnreadableStep = 3
-- a span, buffer, index entry, node, input or slot outside its table, or a Send with more weights than its coefficient span
number OutsideTable = 4
-- a count above its limit
number OverLimit = 5
-- Gain (its used channels), Matrix or Send with one buffer in both src and dst
number SharedBuffer = 6
-- a node of over 24 values, a Gain using over 24, a Matrix of rows × columns over 24
number TooManyValues = 7
-- a node id used already
number IdTaken = 8
-- ---- operator
-- id unknown
number UnknownId = 9
-- ramp too long
number LongRamp = 10
-- adoption list of odd length
number OddList = 11
-- ---- feeder
-- directory not in fours, over 512 entries, or a part past the samples
number BadDirectory = 12
-- output area short
number ShortOutput = 13
-- ---- keeper of the areas
-- any lent node, used or not, new or old, with len above 24 or left above 16,777,216
number BadNode = 14
-- ---- reader of lists and folds
-- slot above the highest
number NoSlot = 15
-- format above 6
number NoFormat = 16
-- a fold gain not from +0 to 16, a balance not finite, a width not from -2 to 2
number OutOfRange = 17
-- ---- layout writer, of request C-12
-- with a return, a return input or channel of 0 or a last channel above 4,294,967,295
number BadReturn = 18
-- ---- reader of folds, of request C-14
-- a table without an entry for a pair that it has to cover
number NoEntry = 19
-- a table with two entries for one pair
number PairTwice = 20
-- a table with an entry for a pair that is not to be covered
number PairNotCovered = 21
