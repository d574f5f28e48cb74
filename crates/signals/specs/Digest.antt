-- The digest of samples: the 32-bit FNV-1a of their bytes, each sample's lowest byte first. Definitions only.
use Rattle.std.specs.Prelude.{ℕ, zero, suc, ◌+◌, ◌*◌, ◌/◌, ◌%◌, ◌^◌, get_or, Float}
use mathlib.Core.List.{List, foldl}
use Rattle.std.specs.Int.Bits.{bit_xor}
use Rattle.std.specs.Float.{nan, binary32}
use Rattle.std.specs.Float.Ieee.{to_bits}

-- the digest of nothing
abbrev pub start : ℕ
start = 2166136261

unfoldable pub with_byte : ℕ → ℕ → ℕ
with_byte digest byte = bit_xor digest byte * 16777619 % 2 ^ 32

unfoldable pub with_word : ℕ → ℕ → ℕ
with_word digest word =
    with_byte (with_byte (with_byte (with_byte digest (word % 256)) (word / 256 % 256)) (word / 65536 % 256)) (word / 16777216)

-- a NaN counts with the bits 7FC00000 (hexadecimal)
unfoldable pub with_sample : ℕ → Float → ℕ
with_sample digest x = with_word digest (to_bits binary32 x)

-- the entries of a list, by the word of each
abbrev pub of_entries : {A : Type 0} → (A → ℕ) → ℕ → List A → ℕ
of_entries word digest list = foldl (λ d x. with_word d (word x)) digest list

abbrev pub of_words : ℕ → List ℕ → ℕ
of_words digest words = foldl with_word digest words

abbrev pub of_samples : ℕ → List Float → ℕ
of_samples digest samples = foldl with_sample digest samples

-- sample k of the first n channels, whose blocks stand one after the other
unfoldable pub with_frame : (block : ℕ) → ℕ → List Float → ℕ → ℕ → ℕ
with_frame block digest blocks k zero = digest
with_frame block digest blocks k (suc c) = with_sample (with_frame block digest blocks k c) (get_or blocks (c * block + k) nan)

-- the first n samples of so many channels, in the order of a sound file
unfoldable pub with_frames : (block channels : ℕ) → ℕ → List Float → ℕ → ℕ
with_frames block channels digest blocks zero = digest
with_frames block channels digest blocks (suc k) = with_frame block (with_frames block channels digest blocks k) blocks k channels
