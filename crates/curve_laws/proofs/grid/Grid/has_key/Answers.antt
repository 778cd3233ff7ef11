use Rattle.std.proofs.Common.{◌≡◌, ◌≤◌, ◌*◌, ◌-◌, ◌/◌, ◌^◌, ap}
use Rattle.curve_laws.specs.Grid.{IsGrid}
use Rattle.curve_laws.proofs.Masks.{is_below}
use Rattle.curve_laws.proofs.grid.Grid.has_key.Goals as goal

pub returns-then-is_in_range : goal.returns-then-is_in_range
returns-then-is_in_range c =
    let range : IsGrid c.args.self.now.n c.args.self.now.b = c.is_in_range.ensures.0 c.if-is_in_range.true in
    let bits : c.from.result * c.from-then-is_in_range.result ≡ c.args.self.now.n * c.args.self.now.b = cc in
    let few : c.args.self.now.n * c.args.self.now.b ≤ 64 = range.fits in
    let test = is_below 64 (c.args.self.now.n * c.args.self.now.b) c.args.key _ few (ap (λ t. (2 ^ 64 - 1) / 2 ^ (64 - t)) bits) in
    (λ short. record { grid = range; below = test.0 short }, λ key. test.1 key.below)
