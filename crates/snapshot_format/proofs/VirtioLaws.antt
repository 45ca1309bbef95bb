-- The virtio block device has a form.
use Rattle.std.proofs.Common.{◌≡◌, ℕ, zero, suc, ◌-◌, ◌^◌, Bool, true, false, List, [], length, Option, Some, None, refl, ap, arith}
use Rattle.std.specs.Prelude.{◌&&◌, ◌||◌, not, nat_lt, nat_le, is_some}
use Rattle.std.proofs.lemmas.Bool.{leb-true, not-true}
use Rattle.spec_processor.specs.Bits.{bit}
use Rattle.spec_reference.specs.VirtioStores.{is_size}
use Rattle.sv_types.specs.Policies.{is_between}
use Rattle.sv_types.specs.VirtioResults.{result_number}
use Rattle.sv_types.specs.declared.virtio.VirtioPart.{VirtioPart}
use Rattle.sv_types.specs.declared.virtio.VirtioRequest.{VirtioRequest}
use Rattle.sv_types.specs.declared.virtio.VirtioResult.{VirtioResult}
use Rattle.snapshot_format.specs.FormLaw.{IsForm}
use Rattle.snapshot_format.specs.Forms.{number, within, and_then, always, is_word}
use Rattle.snapshot_format.specs.HartForms.{flag}
use Rattle.snapshot_format.specs.PageForms.{some_or}
use Rattle.snapshot_format.specs.VirtioForms.{register, ring_index, selection, size_in, in_use, is_aligned, aligned, queue, status_in, is_ring, accepted, count_in}
use Rattle.snapshot_format.specs.VirtioForms.{place_reached, may_stand, part_of, part_parts, descriptor, next_descriptor, descriptors, result_of, result_form}
use Rattle.snapshot_format.specs.VirtioForms.{may_be_moved, may_be_made, progress, request_of, request_parts, request_form, no_request, request_flag}
use Rattle.snapshot_format.specs.VirtioForms.{request_after, request_under_way, state_of, state_parts, virtio}
use Rattle.snapshot_format.proofs.FormLaws.{first_true, second_true, number_is, nothing_is, within_is, and_then_is, made_is, listed_is, pair_is, numbers_are}
use Rattle.snapshot_format.proofs.HartLaws.{flag_is}

register_is : IsForm register
unfolding register
register_is = numbers_are (λ n. nat_lt n (2 ^ 32))

ring_index_is : IsForm ring_index
unfolding ring_index
ring_index_is = numbers_are (λ n. nat_lt n (2 ^ 16))

-- ---- the registers

selection_is : IsForm selection
unfolding selection
selection_is =
    pair_is _ _ register_is (pair_is _ _ register_is (pair_is _ _ register_is (pair_is _ _ register_is (pair_is _ _ register_is register_is))))

in_use_is : (size : ℕ) → IsForm (in_use size)
unfolding in_use
in_use_is size = within_is (λ ready. not ready || is_size size) flag flag_is

place_is : (ready : Bool) (size : ℕ) → IsForm (aligned ready size)
unfolding aligned
place_is ready size = numbers_are (is_aligned ready size)

queue_is : (ready : Bool) → IsForm (queue ready)
unfolding queue
queue_is ready =
    pair_is _ _ register_is (pair_is _ _ register_is (pair_is _ _ (place_is ready 16) (pair_is _ _ (place_is ready 2) (pair_is _ _ (place_is ready 4) ring_index_is))))

-- ---- the request

accepted_is : IsForm accepted
unfolding accepted
accepted_is =
    pair_is _ _ ring_index_is (pair_is _ _ number_is (pair_is _ _ (numbers_are (is_between 1 64)) (pair_is _ _ (numbers_are is_ring) (numbers_are (is_between 2 34)))))

reached_is : (count : ℕ) → IsForm (place_reached count)
unfolding place_reached
reached_is count = numbers_are (is_between 1 (count - 1))

descriptor_is : IsForm descriptor
unfolding descriptor
descriptor_is =
    made_is part_of part_parts always _ (pair_is _ _ number_is (pair_is _ _ register_is flag_is))
    (record { back = λ p q h. refl; again = λ x h. refl; stays = λ x h. refl })

next_is : (count reached : ℕ) (before : List VirtioPart) → IsForm (next_descriptor count reached before)
unfolding next_descriptor
next_is count reached before = within_is (may_stand count reached (length before)) descriptor descriptor_is

descriptors_are : (count reached : ℕ) → IsForm (descriptors count reached)
unfolding descriptors
descriptors_are count reached = listed_is (next_descriptor count reached) [] 34 (next_is count reached)

result_back : (r : VirtioResult) → result_of (result_number r) ≡ r
result_back VirtioResult.Done = refl
result_back VirtioResult.Failed = refl
result_back VirtioResult.Unsupported = refl

result_again : (n : ℕ) → nat_le n 2 ≡ true → result_number (result_of n) ≡ n
result_again zero h = refl
result_again (suc zero) h = refl
result_again (suc (suc zero)) h = refl
result_again (suc (suc (suc n))) h = absurd (omega (arith, leb-true (suc (suc (suc n))) 2 h))

result_is : IsForm result_form
unfolding result_form
result_is =
    made_is result_of result_number always _ (numbers_are (λ n. nat_le n 2))
    (record { back = λ r p h. result_back r; again = λ n h. result_again n (second_true (is_word n) (nat_le n 2) h); stays = λ n h. refl })

progress_is : (count reached : ℕ) (parts : List VirtioPart) → IsForm (progress count reached parts)
unfolding progress
progress_is count reached parts =
    pair_is _ _ (within_is (may_be_moved count reached parts) register register_is) (pair_is _ _ (numbers_are (may_be_made count reached)) (pair_is _ _ result_is register_is))

request_is : IsForm request_form
unfolding request_form
request_is =
    made_is request_of request_parts always _
    (and_then_is accepted _ accepted_is (λ a h.
    and_then_is (place_reached (count_in a)) _ (reached_is (count_in a)) (λ reached h.
    and_then_is (descriptors (count_in a) reached) (progress (count_in a) reached) (descriptors_are (count_in a) reached) (λ parts h. progress_is (count_in a) reached parts))))
    (record { back = λ q p h. refl; again = λ x h. refl; stays = λ x h. refl })

-- ---- one that is under way

request_flag_is : (status : ℕ) → IsForm (request_flag status)
unfolding request_flag
request_flag_is status = within_is (λ is. not is || not (bit status 6)) flag flag_is

some_back : (o : Option VirtioRequest) → is_some o ≡ true → Some (some_or no_request o) ≡ o
some_back None h = absurd cc
some_back (Some a) h = refl

none_back : (o : Option VirtioRequest) → not (is_some o) ≡ true → None ≡ o
none_back None h = refl
none_back (Some a) h = absurd cc

request_after_is : (b : Bool) → IsForm (request_after b)
unfolding request_after
request_after_is true =
    made_is Some (some_or no_request) is_some request_form request_is
    (record { back = λ o p h. some_back o p; again = λ a h. refl; stays = λ a h. refl })
request_after_is false = nothing_is None (λ o. not (is_some o)) none_back refl

is_under_way : (b : Bool) (o : Option VirtioRequest) → (request_after b).has o ≡ true → is_some o ≡ b
unfolding request_after
is_under_way true o h = first_true (is_some o) _ h
is_under_way false o h = not-true (is_some o) h

under_way_is : (status : ℕ) → IsForm (request_under_way status)
unfolding request_under_way
under_way_is status =
    made_is (λ (x : Bool × Option VirtioRequest). x.1) (λ o. (is_some o, o)) always (and_then (request_flag status) request_after)
    (and_then_is (request_flag status) request_after (request_flag_is status) (λ b h. request_after_is b))
    (record {
      back = λ o p h. refl;
      again = λ x h. ap (λ (b : Bool). (b, x.1)) (is_under_way x.0 x.1 (second_true ((request_flag status).has x.0) ((request_after x.0).has x.1) h));
      stays = λ x h. refl;
    })

-- ---- the device

pub virtio_is : IsForm virtio
unfolding virtio
virtio_is =
    made_is state_of state_parts always _
    (and_then_is selection _ selection_is (λ x h.
    and_then_is (in_use (size_in x)) _ (in_use_is (size_in x)) (λ ready h.
    and_then_is (queue ready) (λ y. request_under_way (status_in y)) (queue_is ready) (λ y h. under_way_is (status_in y)))))
    (record { back = λ s p h. refl; again = λ x h. refl; stays = λ x h. refl })
