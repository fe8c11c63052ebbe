use Rattle.std.proofs.Common.{w32, ◌≡◌, ◌<◌, ◌^◌, ◌*◌, ◌%◌, arith}
use Rattle.std.specs.Int.{trailing_zeros}
use Rattle.std.proofs.Math.Pow.{pow-lt}
use Rattle.std.proofs.lemmas.Nat.Bits.{bit_at-trailing_zeros}
use Rattle.asp_plain.proofs.answers.first_bit.Goals as goal

pub returns : goal.returns
returns c =
    let lowest = bit_at-trailing_zeros w32 c.args.atoms c.requires c.ranges.atoms.fits in
    let small : 2 ^ trailing_zeros w32 c.args.atoms < 2 ^ 32 = pow-lt lowest.0 in
    record {
      place = trailing_zeros w32 c.args.atoms;
      power =
          let e : 1 * 2 ^ trailing_zeros w32 c.args.atoms % 4294967296 ≡ 2 ^ trailing_zeros w32 c.args.atoms = omega arith in e;
      there = lowest.1;
    }
