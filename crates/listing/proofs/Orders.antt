-- Rows in order: equal in order is equal, and two rows stand one way round only. Assumes nothing.
use Rattle.std.proofs.Common.{◌≡◌, ℕ, List, Ordering, Less, Equal, Greater, ap, ◌∙◌, arith}
use Rattle.std.proofs.lemmas.Cmp.{nat_list_cmp_total, tied_itself}
use Rattle.std.specs.Ordering.{ordering_reverse}
use Rattle.std.proofs.lemmas.Map.Lookups.{exact_bytes}
use Rattle.entries.specs.Rows.{row_order}

pub row_equal : (x y : List ℕ) → row_order x y ≡ Equal → x ≡ y
row_equal x y h = exact_bytes x y h

pub row_trans : (x y z : List ℕ) → row_order x y ≡ Less → row_order y z ≡ Less → row_order x z ≡ Less
row_trans x y z h k = nat_list_cmp_total.trans x y z h k

pub row_flip : (x y : List ℕ) (o : Ordering) → row_order x y ≡ o → row_order y x ≡ ordering_reverse o
row_flip x y o h = nat_list_cmp_total.antisymm y x ∙ ap ordering_reverse h

pub row_greater : (x y : List ℕ) → row_order x y ≡ Less → row_order y x ≡ Greater
row_greater x y h = row_flip x y Less h

pub row_less : (x y : List ℕ) → row_order x y ≡ Greater → row_order y x ≡ Less
row_less x y h = row_flip x y Greater h

-- no row comes before itself
pub row_irrefl : (x : List ℕ) → row_order x x ≡ Less → ⊥
row_irrefl x h = grind (arith, tied_itself nat_list_cmp_total x)

-- a row that comes before another differs from it
pub less_apart : (x y : List ℕ) → row_order x y ≡ Less → x ≡ y → ⊥
less_apart x y h e = row_irrefl x (ap (row_order x) e ∙ h)

-- of two rows only one comes before the other
pub less_once : (x y : List ℕ) → row_order x y ≡ Less → row_order y x ≡ Less → ⊥
less_once x y h k = row_irrefl x (row_trans x y x h k)
