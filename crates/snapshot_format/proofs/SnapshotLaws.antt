-- Snapshots have a form.
use Rattle.std.proofs.Common.{◌≡◌, ℕ, ◌*◌, ◌^◌, Bool, true, false, cond, ltb, eqb, List, [], ◌++◌, length, take, drop, Result, Ok, Err, refl, sym, ap, subst, ◌∙◌, arith, ◌⊎◌, inl, inr}
use Rattle.std.specs.Prelude.{nat_lt, nat_le}
use Rattle.std.specs.Str.{bytes_eq}
use Rattle.std.proofs.lemmas.Bool.{eqb-true, le-ltb}
use Rattle.std.proofs.lemmas.List.{take_at, drop_at, take-append-drop, length-append, append-nil, nil_from_length}
use Rattle.std.proofs.lemmas.Slice.Eq.{bytes_eq-Decides}
use Rattle.spec_processor.specs.Bytes.{page_size}
use Rattle.sv_types.specs.Policies.{harts_within, ram_pages_within}
use Rattle.snapshot_format.specs.declared.refusal.SnapRefusal.{SnapRefusal}
use Rattle.snapshot_format.specs.declared.refusal.SnapRefusal.TheVariants.{TooLong, OtherLength, OtherBeginning}
use Rattle.snapshot_format.specs.FormLaw.{IsBytes, IsForm}
use Rattle.sv_types.specs.Steps.{◌>>=◌}
use Rattle.snapshot_format.specs.Forms.{and_then, always}
use Rattle.snapshot_format.specs.HartForms.{harts}
use Rattle.snapshot_format.specs.DeviceForms.{console, devices, kind_of, port}
use Rattle.snapshot_format.specs.PageForms.{gate, pages}
use Rattle.snapshot_format.specs.declared.whole.PortKind.{PortKind}
use Rattle.snapshot_format.specs.declared.whole.PortKind.TheVariants.{Block, Virtio}
use Rattle.snapshot_format.specs.SnapshotLaw.{SnapshotLaw}
use Rattle.snapshot_format.specs.Snapshots.{magic, magic_at, magic_form, Header, header_of, header_parts, header, Contents, Body, body}
use Rattle.snapshot_format.specs.Snapshots.{whole_of, whole_header, whole_body, snapshot, max_snapshot_bytes, if_at_end, snapshot_read}
use Rattle.snapshot_format.proofs.DeviceLaws.{devices_are, port_kind}
use Rattle.snapshot_format.proofs.FormLaws.{bind_ok, passed, first_true, second_true, number_is, plain_is, and_then_is, made_is, pair_is, numbers_are}
use Rattle.snapshot_format.proofs.HartLaws.{harts_are, harts_number}
use Rattle.snapshot_format.proofs.JournalLaws.{journal_is}
use Rattle.snapshot_format.proofs.Lengths.{snapshot_length}
use Rattle.snapshot_format.proofs.PageLaws.{pages_are, pages_number, gate_is}

-- ---- the beginning

magic_again : (kind : PortKind) (rest : List ℕ) → magic_at (magic kind ++ rest) ≡ Ok (kind, rest)
unfolding magic_at
magic_again Block rest =
    let long : ltb (length (magic Block ++ rest)) 8 ≡ false = le-ltb _ _ (omega (arith, length-append (magic Block) rest)) in
    rw long refl
magic_again Virtio rest =
    let long : ltb (length (magic Virtio ++ rest)) 8 ≡ false = le-ltb _ _ (omega (arith, length-append (magic Virtio) rest)) in
    rw long refl

-- a beginning was found
record IsFound {A : Type 0} (p : Bool) (x y : A) : Type 0 where
  is : p ≡ true
  same : x ≡ y

found : {A : Type 0} (p q r : Bool) (x y z : A) → cond p (Err OtherLength) (cond q (Ok x) (cond r (Ok y) (Err OtherBeginning))) ≡ Ok z → IsFound q x z ⊎ IsFound r y z
found true q r x y z e = absurd cc
found false true r x y z e = inl (record { is = refl; same = cc })
found false false true x y z e = inr (record { is = refl; same = cc })
found false false false x y z e = absurd cc

magic_only : (bytes : List ℕ) (kind : PortKind) (rest : List ℕ) → magic_at bytes ≡ Ok (kind, rest) → bytes ≡ magic kind ++ rest
unfolding magic_at
magic_only bytes kind rest e =
    let begins : (k : PortKind) → bytes_eq (take 8 bytes) (magic k) ≡ true → bytes ≡ magic k ++ drop 8 bytes =
    λ k is. sym (take-append-drop 8 bytes) ∙ ap (λ (front : List ℕ). front ++ drop 8 bytes) ((bytes_eq-Decides (take 8 bytes) (magic k)).0 is) in
    elim (found (ltb (length bytes) 8) (bytes_eq (take 8 bytes) (magic Block)) (bytes_eq (take 8 bytes) (magic Virtio)) (Block, drop 8 bytes) (Virtio, drop 8 bytes) (kind, rest) e) [
      | inl f ↦ subst (λ (y : PortKind × List ℕ). bytes ≡ magic y.0 ++ y.1) f.same (begins Block f.is)
      | inr f ↦ subst (λ (y : PortKind × List ℕ). bytes ≡ magic y.0 ++ y.1) f.same (begins Virtio f.is)
    ]

pub beginning_is : IsForm magic_form
beginning_is = record { again = λ kind rest h. magic_again kind rest; only = λ bytes kind rest fits e. (magic_only bytes kind rest e, refl) }

pub header_is : IsForm header
unfolding header
header_is =
    made_is header_of header_parts always _
    (pair_is _ _ beginning_is (pair_is _ _ (numbers_are (λ n. nat_le n (2 ^ 32))) (pair_is _ _ (numbers_are harts_within)
    (pair_is _ _ (numbers_are ram_pages_within) number_is))))
    (record { back = λ h p has. refl; again = λ x h. refl; stays = λ x h. refl })

-- ---- the whole

pub body_is : (h : Header) → IsForm (body h)
unfolding body
body_is h =
    and_then_is (harts h.ram_pages h.harts) _ (harts_are h.ram_pages h.harts)
    (λ hs p. pair_is _ _ (pages_are h.ram_pages) (pair_is _ _ (gate_is hs) (pair_is _ _ (devices_are h.kind)
    (pair_is _ _ (journal_is h.events h.harts) (plain_is (page_size * h.ram_pages))))))

-- the numbers of harts and of pages are those of their lists
body_harts : (h : Header) (b : Body) → (body h).has b ≡ true → length b.0 ≡ h.harts
unfolding body
body_harts h b has = harts_number h.ram_pages h.harts b.0 (first_true ((harts h.ram_pages h.harts).has b.0) _ has)

body_pages : (h : Header) (b : Body) → (body h).has b ≡ true → length b.1.0.0 ≡ h.ram_pages
unfolding body
body_pages h b has =
    pages_number h.ram_pages b.1.0 (first_true ((pages h.ram_pages).has b.1.0) _
    (second_true ((harts h.ram_pages h.harts).has b.0) _ has))

-- the kind is the device's
body_kind : (h : Header) (b : Body) → (body h).has b ≡ true → kind_of b.1.1.1.0.1.0 ≡ h.kind
unfolding body devices
body_kind h b has =
    let behind = second_true ((harts h.ram_pages h.harts).has b.0) _ has in
    let after_pages = second_true ((pages h.ram_pages).has b.1.0) _ behind in
    let after_gate = second_true ((gate b.0).has b.1.1.0) _ after_pages in
    let device = second_true (console.has b.1.1.1.0.0) _ (first_true ((devices h.kind).has b.1.1.1.0) _ after_gate) in
    port_kind h.kind b.1.1.1.0.1.0 (first_true ((port h.kind).has b.1.1.1.0.1.0) _ device)

abbrev whole_parts : Contents → Header × Body
whole_parts s = (whole_header s, whole_body s)

whole_again : (x : Header × Body) → (and_then header body).has x ≡ true → whole_parts (whole_of x) ≡ x
whole_again x h =
    let there = second_true (header.has x.0) ((body x.0).has x.1) h in
    let hs = body_harts x.0 x.1 there in
    let ps = body_pages x.0 x.1 there in
    let kind = body_kind x.0 x.1 there in
    rw (hs, ps, kind) refl

pub snapshot_is : IsForm snapshot
unfolding snapshot
snapshot_is =
    made_is whole_of whole_parts always (and_then header body) (and_then_is header body header_is (λ h p. body_is h))
    (record { back = λ s p h. refl; again = λ x h. whole_again x h; stays = λ x h. refl })

-- ---- all bytes

not_longer : {A : Type 0} (b : Bool) (r : Result A SnapRefusal) (y : A) → cond b (Err TooLong) r ≡ Ok y → r ≡ Ok y
not_longer true r y e = absurd cc
not_longer false r y e = e

-- nothing was left
ended_ok : (x : Contents × List ℕ) (s : Contents) → if_at_end x ≡ Ok s → (x.0 ≡ s) × (x.1 ≡ [])
ended_ok x s e =
    let g = passed (eqb (length x.1) 0) OtherLength x.0 s e in
    (g.1, nil_from_length x.1 (eqb-true (length x.1) 0 g.0))

read_only : (bytes : List ℕ) (s : Contents) → IsBytes bytes → snapshot_read bytes ≡ Ok s → (bytes ≡ snapshot.encode s) × (snapshot.has s ≡ true)
unfolding snapshot_read
read_only bytes s fits e =
    let g = not_longer (nat_lt max_snapshot_bytes (length bytes)) (snapshot.taken bytes >>= if_at_end) s e in
    let a = bind_ok (snapshot.taken bytes) if_at_end s g in
    let p = snapshot_is.only bytes a.0.0 a.0.1 fits a.1 in
    let q = ended_ok a.0 s a.2 in
    let whole : bytes ≡ snapshot.encode a.0.0 = p.0 ∙ ap (λ (t : List ℕ). snapshot.encode a.0.0 ++ t) q.1 ∙ append-nil (snapshot.encode a.0.0) in
    subst (λ (y : Contents). (bytes ≡ snapshot.encode y) × (snapshot.has y ≡ true)) q.0 (whole, p.1)

read_again : (s : Contents) → snapshot.has s ≡ true → snapshot_read (snapshot.encode s) ≡ Ok s
unfolding snapshot_read
read_again s h =
    let short : nat_lt max_snapshot_bytes (length (snapshot.encode s)) ≡ false = le-ltb _ _ (snapshot_length s h) in
    let taken : snapshot.taken (snapshot.encode s) ≡ Ok (s, []) = ap snapshot.taken (sym (append-nil (snapshot.encode s))) ∙ snapshot_is.again s [] h in
    rw (short, taken) refl

pub snapshot_law : SnapshotLaw
snapshot_law = record { again = read_again; only = read_only }
