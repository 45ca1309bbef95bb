-- A policy's table is not deep.
use Rattle.std.proofs.Common.{ℕ, ◌≤◌, List, [], ◌∷◌, map, codes, Option, Some, None, Ordering, Less, Equal, Greater, arith, Bool, true, false, ◌==◌, if◌then◌else◌}
use Rattle.std.specs.Ordering.{nat_cmp, match_ordering}
use Rattle.std.specs.Cmp.Lexicographic.{slice_cmp}
use Rattle.toml.specs.Data.{Data, string, array, Members, no_members, member, depth, items_depth, members_depth}
use Rattle.toml.specs.View.{items_of}
use Rattle.sv_types.specs.Policies.{Rules, ModuleRule}
use Rattle.sv_types.specs.declared.module.Span.{Span}
use Rattle.sv_types.specs.declared.module.Site.{Site}
use Rattle.sv_types.specs.declared.policy.Export.{Export}
use Rattle.policy.specs.Bindings.{bindings_of}
use Rattle.policy.specs.declared.binding.Binding.{Binding}
use Rattle.policy.specs.Printed.{with_member, with_init, with_exports, with_modules, address_data, binding_data, export_data, span_data}
use Rattle.policy.specs.Printed.{site_data, module_data, kernel_data, rules_members, entries_data, exports_data, sites_data, modules_data}
use Rattle.policy.specs.Printed.{measure_data, number_data}

depth_of_either : (o : Ordering) (a b c : Members) (n : ℕ) → members_depth a ≤ n → members_depth b ≤ n → members_depth c ≤ n → members_depth (match_ordering o a b c) ≤ n
depth_of_either Less a b c n x y z = x
depth_of_either Equal a b c n x y z = y
depth_of_either Greater a b c n x y z = z

depth_with : (k : List ℕ) (d : Data) (ms : Members) (n : ℕ) → depth d ≤ n → members_depth ms ≤ n → members_depth (with_member k d ms) ≤ n
depth_with k d no_members n here rest = omega arith
depth_with k d (member l e ms) n here rest =
    let tail : members_depth (with_member k d ms) ≤ n = depth_with k d ms n here (omega arith) in
    depth_of_either (slice_cmp nat_cmp k l) (member k d (member l e ms)) (member l d ms) (member l e (with_member k d ms)) n (omega arith) (omega arith) (omega arith)

depth_each : {A : Type 0} (f : A → Data) (n : ℕ) → ((x : A) → depth (f x) ≤ n) → (xs : List A) → items_depth (items_of (map f xs)) ≤ n
depth_each f n each [] = omega arith
depth_each f n each (x ∷ xs) = omega (arith, each x, depth_each f n each xs)

address_depth : (a : ℕ) → depth (address_data a) ≤ 0
unfolding address_data
address_depth a = omega arith

binding_depth : (b : Binding) → depth (binding_data b) ≤ 1
unfolding binding_data address_data
binding_depth b = omega arith

export_depth : (e : Export) → depth (export_data e) ≤ 1
unfolding export_data address_data
export_depth e = omega arith

span_depth : (s : Span) → depth (span_data s) ≤ 1
unfolding span_data address_data
span_depth s = omega arith

site_depth : (s : Site) → depth (site_data s) ≤ 1
unfolding site_data
site_depth s = omega arith

module_depth : (m : ModuleRule) → depth (module_data m) ≤ 3
unfolding module_data
module_depth m =
    let sites : items_depth (items_of (map site_data m.sites)) ≤ 1 = depth_each site_data 1 site_depth m.sites in
    let one : Members = with_member (codes "name") (string m.name) no_members in
    let two : Members = with_member (codes "pages") (number_data m.pages) one in
    let three : Members = with_member (codes "measure") (measure_data m.measure) two in
    let h1 : members_depth one ≤ 2 = depth_with (codes "name") (string m.name) no_members 2 (omega arith) (omega arith) in
    let h2 : members_depth two ≤ 2 = depth_with (codes "pages") (number_data m.pages) one 2 (omega arith) h1 in
    let h3 : members_depth three ≤ 2 = depth_with (codes "measure") (measure_data m.measure) two 2 (omega arith) h2 in
    let h4 : members_depth (with_member (codes "sites") (sites_data m.sites) three) ≤ 2 = depth_with (codes "sites") (sites_data m.sites) three 2 (omega arith) h3 in
    omega arith

init_depth : (init : Option Span) (ms : Members) → members_depth ms ≤ 1 → members_depth (with_init init ms) ≤ 1
init_depth None ms h = h
init_depth (Some span) ms h = depth_with (codes "init") (span_data span) ms 1 (span_depth span) h

kernel_depth : (kernel : List ℕ) (init : Option Span) → depth (kernel_data kernel init) ≤ 2
unfolding kernel_data
kernel_depth kernel init =
    let inner : members_depth (with_init init (with_member (codes "measure") (measure_data kernel) no_members)) ≤ 1 =
    init_depth init (with_member (codes "measure") (measure_data kernel) no_members) (omega arith) in
    omega arith

exports_depth : (exports : List Export) (ms : Members) → members_depth ms ≤ 80 → members_depth (with_exports exports ms) ≤ 80
exports_depth [] ms h = h
exports_depth (e ∷ es) ms h =
    let items : items_depth (items_of (map export_data (e ∷ es))) ≤ 1 = depth_each export_data 1 export_depth (e ∷ es) in
    depth_with (codes "exports") (exports_data (e ∷ es)) ms 80 (omega arith) h

modules_depth : (modules : List ModuleRule) (ms : Members) → members_depth ms ≤ 80 → members_depth (with_modules modules ms) ≤ 80
modules_depth [] ms h = h
modules_depth (m ∷ more) ms h =
    let items : items_depth (items_of (map module_data (m ∷ more))) ≤ 3 = depth_each module_data 3 module_depth (m ∷ more) in
    depth_with (codes "module") (modules_data (m ∷ more)) ms 80 (omega arith) h

entries_depth : (is_plain : Bool) (entries bound : List ℕ) → depth (array (items_of (if is_plain then map address_data entries else map binding_data (bindings_of entries bound)))) ≤ 2
entries_depth true entries bound = omega (arith, depth_each address_data 0 address_depth entries)
entries_depth false entries bound = omega (arith, depth_each binding_data 1 binding_depth (bindings_of entries bound))

pub depth_of_rules : (r : Rules) → members_depth (rules_members r) ≤ 80
unfolding rules_members
depth_of_rules r =
    let entries : depth (entries_data r.format r.entries r.bound) ≤ 2 = entries_depth (r.format == 1) r.entries r.bound in
    let kernel : depth (kernel_data r.kernel r.init) ≤ 2 = kernel_depth r.kernel r.init in
    let one : Members = with_member (codes "format") (number_data r.format) no_members in
    let two : Members = with_member (codes "harts") (number_data r.harts) one in
    let three : Members = with_member (codes "ram_pages") (number_data r.ram_pages) two in
    let four : Members = with_member (codes "entries") (entries_data r.format r.entries r.bound) three in
    let five : Members = with_exports r.exports four in
    let six : Members = with_member (codes "kernel") (kernel_data r.kernel r.init) five in
    let h1 : members_depth one ≤ 80 = depth_with (codes "format") (number_data r.format) no_members 80 (omega arith) (omega arith) in
    let h2 : members_depth two ≤ 80 = depth_with (codes "harts") (number_data r.harts) one 80 (omega arith) h1 in
    let h3 : members_depth three ≤ 80 = depth_with (codes "ram_pages") (number_data r.ram_pages) two 80 (omega arith) h2 in
    let h4 : members_depth four ≤ 80 = depth_with (codes "entries") (entries_data r.format r.entries r.bound) three 80 (omega arith) h3 in
    let h5 : members_depth five ≤ 80 = exports_depth r.exports four h4 in
    let h6 : members_depth six ≤ 80 = depth_with (codes "kernel") (kernel_data r.kernel r.init) five 80 (omega arith) h5 in
    modules_depth r.modules six h6
