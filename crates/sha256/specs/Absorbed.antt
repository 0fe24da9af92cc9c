-- What a `Hasher` is after some bytes, one byte after another, and the hash that it ends with.
-- Assumes nothing.
use Rattle.std.specs.Prelude.{ℕ, ◌+◌, ◌%◌, ◌^◌, cond, List, [], ◌∷◌, replicate, ◌==◌, slice_set}
use Rattle.sha256.specs.declared.stream.Hasher.{Hasher}
use Rattle.sha256.specs.Padding.{padding}
use Rattle.sha256.specs.Rounds.{initial}
use Rattle.sha256.specs.Sha256.{compressed, bytes_of}

-- a hasher before the first byte
abbrev pub fresh : Hasher
fresh = record { state = initial; pending = replicate 64 0; total = 0 }

-- the block that is being filled, with one more byte at its place
abbrev pub filled : Hasher → ℕ → List ℕ
filled h byte = slice_set h.pending (h.total % 64) byte

-- one more byte: it is put into the block, which goes into the hash value once it is whole, and the bytes are counted modulo 2 ^ 64
unfoldable pub one_more : Hasher → ℕ → Hasher
one_more h byte =
    record {
      state = cond (h.total % 64 == 63) (compressed h.state (filled h byte)) h.state;
      pending = filled h byte;
      total = (h.total + 1) % 2 ^ 64;
    }

-- some more bytes
unfoldable pub absorbed : Hasher → List ℕ → Hasher
absorbed h [] = h
absorbed h (byte ∷ bytes) = absorbed (one_more h byte) bytes

-- the hash of all the bytes so far: the hash value once the padding has come in too
unfoldable pub finished : Hasher → List ℕ
finished h = bytes_of (absorbed h (padding h.total)).state
