pub mod PrinterLaws
