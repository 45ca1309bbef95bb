use Rattle.std.proofs.Common.{◌≡◌, ◌+◌, ◌-◌, ◌++◌, ℕ, suc, ap, sym, ◌∙◌, arith, List}
use Rattle.secvisor_cli.proofs.ReadyLemmas.{bytes_from, disk_begun, disk_more, disk_all}
use Rattle.secvisor_cli.proofs.generated.disk.Goals as goal

pub places-init : goal.places-init
places-init c = ap (λ (items : List ℕ). items ++ bytes_from 0 1024) c.new-disk.ensures.items ∙ disk_begun

pub places-preserved : goal.places-preserved
places-preserved c =
    let left : 1024 - c.places.place ≡ suc (1024 - (c.places.place + 1)) = omega arith in
    let before = ap (λ (n : ℕ). c.places.disk.items ++ bytes_from c.places.place n) (sym left) ∙ c.places.invariant in
    ap (λ (items : List ℕ). items ++ bytes_from (c.places.place + 1) (1024 - (c.places.place + 1))) c.in_ok-push.ensures.items ∙
    disk_more c.places.disk.items c.places.place (1024 - (c.places.place + 1)) before

pub returns : goal.returns
returns c =
    let none : 1024 - c.places.place ≡ 0 = omega arith in
    disk_all c.places.disk.items c.places.place (ap (λ (n : ℕ). c.places.disk.items ++ bytes_from c.places.place n) (sym none) ∙ c.places.invariant)
