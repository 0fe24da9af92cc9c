use Rattle.std.proofs.Common.{◌≡◌, ℕ, ◌*◌, List, replicate, ap, ◌∙◌}
use Rattle.ceremony.specs.Model.{Held}
use Rattle.runs.specs.Rooms.{room_for}
use Rattle.runs.proofs.room.Room.new.Goals as goal

all_zeros : (n : ℕ) (a b d e f : List ℕ) → a ≡ replicate 130000 0 → b ≡ replicate 2000 0 → d ≡ replicate (8257 * n) 0 → e ≡ replicate 8192 0 → f ≡ replicate 2000 0
    → ◌≡◌ {A = Held} (record { slots = a; index = b; seals = d; bits = e; order = f }) (room_for n)
unfolding room_for
all_zeros n a b d e f p q r s t = λ i. record { slots = p i; index = q i; seals = r i; bits = s i; order = t i }

pub returns : goal.returns
returns c =
    all_zeros c.args.parties _ _ _ _ _ (c.in_ok-slots.ensures.items_if_clones_equal (λ y e. e)) (c.in_ok-index.ensures.items_if_clones_equal (λ y e. e)) (c.in_ok-seals.ensures.items_if_clones_equal (λ y e. e) ∙ ap (λ (k : ℕ). replicate (k * c.args.parties) 0) c.record_size.ensures)
    (c.in_ok-bits.ensures.items_if_clones_equal (λ y e. e)) (c.in_ok-order.ensures.items_if_clones_equal (λ y e. e))
