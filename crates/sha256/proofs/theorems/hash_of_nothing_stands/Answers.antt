use Rattle.std.proofs.Common.{refl}
use Rattle.sha256.specs.Padding.{padding}
use Rattle.sha256.specs.Rounds.{round, rounds, summed}
use Rattle.sha256.specs.Schedule.{first_words, next, longer, schedule}
use Rattle.sha256.specs.Sha256.{compressed, after, bytes_of, sha256}
use Rattle.sha256.proofs.theorems.hash_of_nothing_stands.Goals as goal

-- by computation
pub returns : goal.returns
unfolding round rounds summed first_words next longer schedule compressed after padding bytes_of sha256
returns c = refl
