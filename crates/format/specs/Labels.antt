-- The channel labels, which are strings in the Rust, by numbers of the port. Definitions only.
use Rattle.std.specs.Prelude.{ℕ}

abbrev pub M : ℕ
M = 0

abbrev pub L : ℕ
L = 1

abbrev pub R : ℕ
R = 2

abbrev pub C : ℕ
C = 3

abbrev pub LFE : ℕ
LFE = 4

abbrev pub Ls : ℕ
Ls = 5

abbrev pub Rs : ℕ
Rs = 6

abbrev pub Lss : ℕ
Lss = 7

abbrev pub Rss : ℕ
Rss = 8

abbrev pub Lrs : ℕ
Lrs = 9

abbrev pub Rrs : ℕ
Rrs = 10

abbrev pub Ltf : ℕ
Ltf = 11

abbrev pub Rtf : ℕ
Rtf = 12

abbrev pub Ltr : ℕ
Ltr = 13

abbrev pub Rtr : ℕ
Rtr = 14

-- no label: of a channel that a format does not have
abbrev pub no_label : ℕ
no_label = 15
