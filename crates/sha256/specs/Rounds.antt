-- The rounds over one block: FIPS 180-4, sections 5.3.3 and 6.2.2.
-- Assumes nothing.
use Rattle.std.specs.Prelude.{ℕ, zero, suc, List, slice_index}
use Rattle.sha256.specs.declared.state.State.{State}
use Rattle.sha256.specs.Constants.{constants}
use Rattle.sha256.specs.Words.{plus, ch, maj, big_sigma0, big_sigma1}

-- the initial hash value: the first 32 bits of the fractional parts of the square roots of the first 8 primes
abbrev pub initial : State
initial =
    record {
      a = 0x6a09e667;
      b = 0xbb67ae85;
      c = 0x3c6ef372;
      d = 0xa54ff53a;
      e = 0x510e527f;
      f = 0x9b05688c;
      g = 0x1f83d9ab;
      h = 0x5be0cd19;
    }

-- T1 and T2 of a round, with the constant k and the word w
abbrev pub temp1 : ℕ → ℕ → State → ℕ
temp1 k w s = plus (plus (plus (plus s.h (big_sigma1 s.e)) (ch s.e s.f s.g)) k) w

abbrev pub temp2 : State → ℕ
temp2 s = plus (big_sigma0 s.a) (maj s.a s.b s.c)

-- one round: the working variables move on by one place, and T1 and T2 come in at e and a
unfoldable pub round : ℕ → ℕ → State → State
round k w s =
    record {
      a = plus (temp1 k w s) (temp2 s);
      b = s.a;
      c = s.b;
      d = s.c;
      e = plus s.d (temp1 k w s);
      f = s.e;
      g = s.f;
      h = s.g;
    }

-- the first n rounds, with the words ws of the schedule
unfoldable pub rounds : ℕ → List ℕ → State → State
rounds zero ws s = s
rounds (suc t) ws s = round (slice_index constants t) (slice_index ws t) (rounds t ws s)

-- the next hash value: each word of the one before, and the working variable of its place
unfoldable pub summed : State → State → State
summed s t =
    record {
      a = plus s.a t.a;
      b = plus s.b t.b;
      c = plus s.c t.c;
      d = plus s.d t.d;
      e = plus s.e t.e;
      f = plus s.f t.f;
      g = plus s.g t.g;
      h = plus s.h t.h;
    }
