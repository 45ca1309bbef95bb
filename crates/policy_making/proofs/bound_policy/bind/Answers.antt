use Rattle.std.proofs.Common.{◌≡◌, ◌<◌, ◌^◌, List, Ok, map, subst, sym, arith}
use Rattle.std.proofs.lemmas.Result.{IfOk-weaker}
use Rattle.elf64_load.specs.Images.{segment_of, segments_of}
use Rattle.elf64_load.specs.declared.image.Segment.{Segment}
use Rattle.sv_types.specs.Policies.{rules_of}
use Rattle.policy_making.specs.Binding.{measured_bound}
use Rattle.policy_making.specs.InText.{EndInWords}
use Rattle.policy_making.proofs.TextPlaces.{kernel_ends, kernel_in_ram}
use Rattle.policy_making.proofs.BoundWithin.{measured_within}
use Rattle.policy_making.proofs.bound_policy.bind.Goals as goal

pub bind_measured-requires : goal.bind_measured-requires
bind_measured-requires g c =
    let few : c.args.policy.ram_pages < 2 ^ 32 = let fits = c.well_formed in omega arith in
    record {
      end =
          subst (λ (segments : List Segment). EndInWords (map segment_of segments)) (sym c.deref.ensures.value)
          (kernel_ends c.args.policy.ram_pages (segments_of c.args.image.now) few c.requires.kernel);
    }

pub returns-clause-within : goal.returns-clause-within
returns-clause-within g c = λ within.
    IfOk-weaker c.bind_measured.result _ _
    (λ made is.
    measured_within (rules_of c.args.policy) (segments_of c.args.image.now) (rules_of made) c.in_ok-found.found
    (kernel_in_ram c.args.policy.ram_pages (segments_of c.args.image.now) c.requires.kernel) within
    (subst (λ (segments : List Segment). measured_bound (rules_of c.args.policy) (map segment_of segments) c.in_ok-found.found ≡ Ok (rules_of made)) c.deref.ensures.value is))
    c.bind_measured.ensures.bound
