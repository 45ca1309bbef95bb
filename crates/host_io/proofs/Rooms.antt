-- Spare rooms.
use Rattle.std.proofs.Common.{◌≡◌, ◌≤◌, ℕ, List, Vec, Global, take, sym, subst, arith}
use Rattle.std.specs.Prelude.{vec_capacity}
use Rattle.std.proofs.lemmas.List.Elements.{All-take, All-weaker}
use Rattle.host_io.specs.Held.{HaveRoom}

pub room_for_less : (less more : ℕ) (spare : List (Vec ℕ Global)) → less ≤ more → HaveRoom more spare → HaveRoom less spare
room_for_less less more spare few rooms =
    All-weaker (λ (v : Vec ℕ Global). more ≤ vec_capacity v) (λ (v : Vec ℕ Global). less ≤ vec_capacity v) (λ v it. omega (arith, it, few)) spare rooms

-- without the last one
pub rooms_left : (room n : ℕ) (spare left : List (Vec ℕ Global)) → left ≡ take n spare → HaveRoom room spare → HaveRoom room left
rooms_left room n spare left is rooms =
    subst (λ (l : List (Vec ℕ Global)). HaveRoom room l) (sym is) (All-take (λ (v : Vec ℕ Global). room ≤ vec_capacity v) n spare rooms)
