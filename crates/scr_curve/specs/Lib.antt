pub use Rattle.scr_yield_curve.specs.Rate
pub use Rattle.scr_yield_curve.specs.Discount
pub use Rattle.scr_yield_curve.specs.Parts
pub use Rattle.scr_yield_curve.specs.DiscountEnds
pub use Rattle.scr_yield_curve.specs.Falls
